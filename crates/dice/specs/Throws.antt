-- Throws: those of a linear congruential generator of 32 bits, each by the upper 24 bits of the seed that it leaves.
use Rattle.std.specs.Prelude.{ℕ, ◌+◌, ◌*◌, ◌/◌, ◌%◌, ◌^◌}

-- the seed that a throw leaves
abbrev pub next_seed : ℕ → ℕ
next_seed seed = (seed * 1664525 + 1013904223) % 2 ^ 32

-- the bits of a seed that are shown
abbrev pub upper_bits : ℕ → ℕ
upper_bits seed = seed / 2 ^ 8
