-- Little-endian numbers in bytes: the lower byte stands first. A byte past the end counts as 0.
use Rattle.std.specs.Prelude.{◌≡◌, ℕ, zero, suc, ◌+◌, ◌-◌, ◌*◌, ◌/◌, ◌%◌, ◌<◌, ◌≤◌, if◌then◌else◌, List, [], ◌∷◌, ◌++◌, length, drop, ℤ, pos, negsuc, nat_lt, slice_index}
use Rattle.std.specs.List.{AllByRecursion}

-- the number that the bytes from a place on spell, so many of them
abbrev pub little_endian : ℕ → List ℕ → ℕ → ℕ
little_endian zero bytes at = 0
little_endian (suc width) bytes at = slice_index bytes at + 256 * little_endian width bytes (at + 1)

-- the number whose two's complement of 32 bits is n: from 2^31 on it is n less 2^32
abbrev pub signed32 : ℕ → ℤ
signed32 n = if nat_lt n 2147483648 then pos n else negsuc (4294967295 - n)

-- a 16-bit number as two bytes
abbrev pub two_bytes : ℕ → List ℕ
two_bytes n = n % 256 ∷ n / 256 ∷ []

-- reading and writing are each other's inverse
pub record NumberLaws : Type 0 where
  -- a number that stands as two bytes anywhere among others is read back from its place
  pub read_back : (before : List ℕ) (n : ℕ) (behind : List ℕ) → little_endian 2 (before ++ (two_bytes n ++ behind)) (length before) ≡ n
  -- two bytes anywhere are those of the number that is read there
  pub written_back : (bytes : List ℕ) (at : ℕ) → AllByRecursion (λ b. b < 256) bytes → at + 2 ≤ length bytes → drop at bytes ≡ two_bytes (little_endian 2 bytes at) ++ drop (at + 2) bytes
