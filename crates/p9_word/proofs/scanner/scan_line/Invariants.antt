use Rattle.std.proofs.Common.{◌≡◌, drop}
use Rattle.p9_word.specs.Scan.{scan, scan_state, words_of}
use Rattle.p9_word.proofs.scanner.scan_line.Given as goal

-- what is still to come is read as the whole line is
abbrev pub invariant-loop-byte : goal.invariant-loop-byte
invariant-loop-byte l = scan (scan_state l.scanner) (drop l.byte-index l.line) ≡ words_of l.line
