-- What a numeral says.
use Rattle.std.specs.Prelude.{ℕ, ◌+◌, ◌-◌, ◌*◌, Bool, false, cond, not, ◌&&◌, List, [], ◌∷◌, Some, None, Option, ◌==◌, nat_le}
use Rattle.std.specs.List.{list_all}

-- 0 to 9
abbrev pub is_digit : ℕ → Bool
is_digit b = nat_le 48 b && nat_le b 57

abbrev pub all_digits : List ℕ → Bool
all_digits bs = list_all is_digit bs

-- the value of the digits, after n
abbrev pub value_from : ℕ → List ℕ → ℕ
value_from n [] = n
value_from n (b ∷ bs) = value_from (n * 10 + (b - 48)) bs

-- a leading zero with a digit behind it
abbrev pub spare_zero : List ℕ → Bool
spare_zero [] = false
spare_zero (b ∷ []) = false
spare_zero (b ∷ c ∷ bs) = b == 48

-- the number that digits say, if they say one
abbrev pub numeral : List ℕ → Option ℕ
numeral bs =
    cond (all_digits bs && (not (spare_zero bs) && nat_le (value_from 0 bs) 4294967295)) (Some (value_from 0 bs)) None
