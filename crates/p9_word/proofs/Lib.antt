mod Digits
mod Quotes
mod Spell
