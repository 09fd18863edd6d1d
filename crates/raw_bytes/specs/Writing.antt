-- A text written into bytes from a place on.
use Rattle.std.specs.Prelude.{◌≡◌, ℕ, ◌+◌, ◌-◌, ◌^◌, ◌<◌, ◌≤◌, min, List, ◌++◌, length, take, drop, slice_index_or}
use Rattle.raw_bytes.specs.declared.writer.Writer.{Writer}

-- the bytes once a text stands in them from a place on: it is cut where the bytes end, and every
-- other place is as it was
unfoldable pub overlaid : List ℕ → ℕ → List ℕ → List ℕ
overlaid bytes at text = take at bytes ++ (take (length bytes - at) text ++ drop (at + length text) bytes)

-- the place so many bytes further; places stop at the largest 64-bit number
abbrev pub further : ℕ → ℕ → ℕ
further at n = min (at + n) (2 ^ 64 - 1)

-- a text was written from a place on, and the next place is the one after it, were there room or not
pub record Wrote (before : List ℕ) (at : ℕ) (text : List ℕ) (after : List ℕ) (next : ℕ) : Type 0 where
  pub bytes : after ≡ overlaid before at text
  pub place : next ≡ further at (length text)

-- the same of a writer, which still writes to the same bytes
pub record Written (before : Writer) (text : List ℕ) (after : Writer) : Type 0 where
  pub same_bytes : after.out.ghost_name ≡ before.out.ghost_name
  pub wrote : Wrote before.out.now before.at text after.out.now after.at

-- what the writer's word means, for bytes of any slice
pub record WritingLaws : Type 0 where
  -- the text's own places hold it, as far as the bytes reach, and every other place is as it was
  pub inside : (bytes text : List ℕ) (at k d : ℕ) → k < length text → at + k < length bytes → slice_index_or (overlaid bytes at text) (at + k) d ≡ slice_index_or text k d
  pub before : (bytes text : List ℕ) (at k d : ℕ) → k < at → slice_index_or (overlaid bytes at text) k d ≡ slice_index_or bytes k d
  pub behind : (bytes text : List ℕ) (at k d : ℕ) → at + length text ≤ k → slice_index_or (overlaid bytes at text) k d ≡ slice_index_or bytes k d
  pub as_long : (bytes text : List ℕ) (at : ℕ) → length (overlaid bytes at text) ≡ length bytes
  -- one text and then another are the two in one
  pub joined : (a b c first second : List ℕ) (at mid next : ℕ) → length a < 2 ^ 64 → Wrote a at first b mid → Wrote b mid second c next → Wrote a at (first ++ second) c next
  -- a whole text that fits is the text, then the rest as it was
  pub whole : (bytes text after : List ℕ) (next : ℕ) → length bytes < 2 ^ 64 → length text ≤ length bytes → Wrote bytes 0 text after next → (after ≡ text ++ drop (length text) bytes) × (next ≡ length text)
