-- Numbers in bytes: places past the end, and a number among other bytes.
use Rattle.std.proofs.Common.{◌≡◌, ℕ, zero, suc, ◌+◌, ◌-◌, ◌*◌, ◌^◌, ◌<◌, ◌≤◌, min, List, ◌++◌, length, get_or, drop, sym, refl, ap, ◌∙◌, ⊎_elim, mul_assoc, arith}
use native.Mathlib.Nat.{pow-succ'}
use Rattle.std.specs.Array.{IsFromFnResultFrom}
use Rattle.std.specs.Fn.{Mut, Called}
use Rattle.std.specs.List.{AllByRecursion}
use Rattle.std.proofs.lemmas.List.{places, same_lists, get_or_past, get_or-append-add}
use Rattle.std.proofs.ByRecursion.{All-get_or}
use Rattle.std.proofs.lemmas.Bool.{cases_lt}
use Rattle.raw_bytes.specs.Numbers.{little_endian, two_bytes, NumberLaws}

-- where calls leave f as it is, what they answer at each number in turn is what P says of it
module _ {F B : Type 0} (g : Mut F (ℕ × Unit {0}) B) (P : ℕ → B → Type 0) (f : F) (step : (i : ℕ) (r : B) (f' : F) → Called g f (i, tt) r f' → P i r × (f' ≡ f)) where
  pub made_by_calls : (n i : ℕ) (ys : List B) → IsFromFnResultFrom g f ys i n → (k j : ℕ) (d : B) → k < n → i + k ≡ j → P j (get_or ys j d)
  made_by_calls zero i ys made k j d h e = absurd (omega arith)
  made_by_calls (suc n) i ys (q, y, here, called, rest) zero j d h e =
      let p : j ≡ i = omega arith in
      rw (p, here.1 d) (step i y q called).0
  made_by_calls (suc n) i ys (q, y, here, called, rest) (suc k) j d h e =
      made_by_calls n (i + 1) ys (rw (step i y q called).1 at rest) k j d (omega arith) (omega arith)

-- past the end every byte counts as 0, and so does a number of any width
pub little_endian_past : (width : ℕ) (bytes : List ℕ) (at : ℕ) → length bytes ≤ at → little_endian width bytes at ≡ 0
little_endian_past zero bytes at h = refl
little_endian_past (suc width) bytes at h =
    (λ i. get_or_past bytes at 0 h i + 256 * little_endian_past width bytes (at + 1) (omega arith) i)

-- a place that stopped at the largest number reads as the place it stands for: both are past the end
pub little_endian_stopped : (width : ℕ) (bytes : List ℕ) (at : ℕ) → length bytes < 2 ^ 64 → little_endian width bytes (min at (2 ^ 64 - 1)) ≡ little_endian width bytes at
little_endian_stopped width bytes at h =
    ⊎_elim
    (λ inside. ap (little_endian width bytes) (omega arith))
    (λ past. little_endian_past width bytes _ (omega arith) ∙ sym (little_endian_past width bytes at (omega arith)))
    (cases_lt at (2 ^ 64))

-- and so does a single byte
pub get_or_stopped : (bytes : List ℕ) (at : ℕ) → length bytes < 2 ^ 64 → get_or bytes (min at (2 ^ 64 - 1)) 0 ≡ get_or bytes at 0
get_or_stopped bytes at h = omega (arith, little_endian_stopped 1 bytes at h)

-- a number is its lower bytes, and its higher bytes moved up by them: for whoever reads one in two parts
pub little_endian_halves : (low high : ℕ) (bytes : List ℕ) (at : ℕ) → little_endian (low + high) bytes at ≡ little_endian low bytes at + 256 ^ low * little_endian high bytes (at + low)
little_endian_halves zero high bytes at =
    let w : zero + high ≡ high = omega arith in
    let p : at + zero ≡ at = omega arith in
    rw (w, p) (omega arith)
little_endian_halves (suc low) high bytes at =
    let w : suc low + high ≡ suc (low + high) = omega arith in
    let p : at + suc low ≡ at + 1 + low = omega arith in
    let h = little_endian_halves low high bytes (at + 1) in
    let m = mul_assoc 256 (256 ^ low) (little_endian high bytes (at + 1 + low)) in
    rw (w, p, pow-succ' 256 low) (omega (arith, h, m))

-- behind other bytes, a number is read at their length: for whoever reads one behind a text
pub little_endian_behind : (width : ℕ) (before bytes : List ℕ) (at : ℕ) → little_endian width (before ++ bytes) (length before + at) ≡ little_endian width bytes at
little_endian_behind zero before bytes at = refl
little_endian_behind (suc width) before bytes at =
    let p : length before + at + 1 ≡ length before + (at + 1) = omega arith in
    rw (p, get_or-append-add before bytes at 0, little_endian_behind width before bytes (at + 1))

read_back : (before : List ℕ) (n : ℕ) (behind : List ℕ) → little_endian 2 (before ++ (two_bytes n ++ behind)) (length before) ≡ n
read_back before n behind = grind (arith, places)

pub written_back : (bytes : List ℕ) (at : ℕ) → AllByRecursion (λ b. b < 256) bytes → at + 2 ≤ length bytes → drop at bytes ≡ two_bytes (little_endian 2 bytes at) ++ drop (at + 2) bytes
written_back bytes at fit h =
    let low = All-get_or (λ b. b < 256) bytes at 0 (omega arith) fit in
    let high = All-get_or (λ b. b < 256) bytes (at + 1) 0 (omega arith) fit in
    same_lists _ _ (grind (arith, places)) (λ k d h. grind (arith, places))

pub number_laws : NumberLaws
number_laws = record { read_back = read_back; written_back = written_back }
