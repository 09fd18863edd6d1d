-- Bytes that spell a call sign.
use Rattle.std.specs.Prelude.{ℕ, ◌-◌, Bool, ◌&&◌, List, ◌++◌, length, replicate, if◌then◌else◌, ◌==◌, nat_le}
use Rattle.std.specs.List.{list_all}
use Rattle.call_signs.specs.Letters.{is_letter}

-- one to eight letters
abbrev pub is_sign : List ℕ → Bool
is_sign bytes = nat_le 1 (length bytes) && (nat_le (length bytes) 8 && list_all is_letter bytes)

-- zeros after up to eight bytes
abbrev pub padded : List ℕ → List ℕ
padded bytes = bytes ++ replicate (8 - length bytes) 0

abbrev pub zeros : List ℕ → Bool
zeros bytes = list_all (λ b. b == 0) bytes

-- `_` for a blank
abbrev pub underscored : ℕ → ℕ
underscored b = if b == 32 then 95 else b
