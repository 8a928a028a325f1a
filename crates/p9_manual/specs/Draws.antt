-- The draws by which alt chooses among several ready entries: random numbers of 32 bits, of one generator for the whole run. This
-- project's own.
use Rattle.std.specs.Prelude.{ℕ}
use Rattle.rand_pcg.specs.Lcg.{Lcg, started, increment_of, advance}
use Rattle.rand_pcg.specs.Pcg.{multiplier_64, pcg32}

-- the generator of a run with this start, after so many draws
abbrev pub generator_after : ℕ → ℕ → Lcg
generator_after start draws = advance 64 multiplier_64 draws (started 64 multiplier_64 start (increment_of 64 54))

-- the draw after so many, a number of 32 bits
abbrev pub draw_after : ℕ → ℕ → ℕ
draw_after start draws = (pcg32 (generator_after start draws)).0
