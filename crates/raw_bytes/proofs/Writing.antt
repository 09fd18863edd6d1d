-- Texts in bytes: what stands where, a single byte, and one text after another.
use Rattle.std.proofs.Common.{◌≡◌, ℕ, ◌+◌, ◌-◌, ◌^◌, ◌<◌, ◌≤◌, min, List, [], ◌∷◌, ◌++◌, length, get_or, drop, set, ℤ, pos, negsuc, nat_abs, ◌≤ℤ◌, ◌<ℤ◌, decimal, sym, ◌∙◌, refl, arith, rules, length-append}
use Rattle.std.specs.Fmt.{signed_decimal}
use Rattle.std.proofs.lemmas.List.{places, same_lists, get_or-set_same}
use Rattle.std.proofs.lemmas.Bool.{cases_eq}
use Rattle.std.proofs.lemmas.Int.{ints}
use Rattle.raw_bytes.specs.Writing.{overlaid, Wrote, Written, WritingLaws}
use Rattle.raw_bytes.specs.declared.writer.Writer.{Writer}

length_overlaid : (bytes text : List ℕ) (at : ℕ) → length (overlaid bytes at text) ≡ length bytes
unfolding overlaid
length_overlaid bytes text at = search (rules, places)

-- a place of the text, one before it, and one behind it
get_or_overlaid_in : (bytes text : List ℕ) (at k d : ℕ) → at ≤ k → k < at + length text → k < length bytes → get_or (overlaid bytes at text) k d ≡ get_or text (k - at) d
unfolding overlaid
get_or_overlaid_in bytes text at k d from to h = grind (arith, places)

get_or_overlaid_before : (bytes text : List ℕ) (at k d : ℕ) → k < at → get_or (overlaid bytes at text) k d ≡ get_or bytes k d
unfolding overlaid
get_or_overlaid_before bytes text at k d h = grind (arith, places)

get_or_overlaid_behind : (bytes text : List ℕ) (at k d : ℕ) → at + length text ≤ k → get_or (overlaid bytes at text) k d ≡ get_or bytes k d
unfolding overlaid
get_or_overlaid_behind bytes text at k d h = grind (arith, places)

overlaid_none : (bytes : List ℕ) (at : ℕ) → overlaid bytes at [] ≡ bytes
unfolding overlaid
overlaid_none bytes at = same_lists _ _ (search (rules, places)) (λ k d h. grind (arith, places))

pub overlaid_one : (bytes : List ℕ) (at b : ℕ) → overlaid bytes at (b ∷ []) ≡ set bytes at b
unfolding overlaid
overlaid_one bytes at b = same_lists _ _ (search (rules, places)) (λ k d h. grind (arith, places, get_or-set_same, cases_eq k at))

overlaid_append : (bytes : List ℕ) (at : ℕ) (first second : List ℕ) → overlaid (overlaid bytes at first) (at + length first) second ≡ overlaid bytes at (first ++ second)
overlaid_append bytes at first second =
    same_lists _ _ (simp length_overlaid) (λ k d h. grind (arith, places, length_overlaid, get_or_overlaid_before, get_or_overlaid_in, get_or_overlaid_behind))

-- a place that stopped at the largest number writes as the place it stands for: both are past the end
overlaid_stopped : (bytes : List ℕ) (at : ℕ) (text : List ℕ) → length bytes < 2 ^ 64 → overlaid bytes (min at (2 ^ 64 - 1)) text ≡ overlaid bytes at text
unfolding overlaid
overlaid_stopped bytes at text short = same_lists _ _ (search (rules, places)) (λ k d h. grind (arith, places))

pub wrote_none : (bytes : List ℕ) (at : ℕ) → at < 2 ^ 64 → Wrote bytes at [] bytes at
wrote_none bytes at h = record { bytes = sym (overlaid_none bytes at); place = omega arith }

pub wrote_one : (bytes after : List ℕ) (at b next : ℕ) → after ≡ set bytes at b → next ≡ min (at + 1) (2 ^ 64 - 1) → Wrote bytes at (b ∷ []) after next
wrote_one bytes after at b next e n = record { bytes = e ∙ sym (overlaid_one bytes at b); place = n }

pub wrote_both : {a b c : List ℕ} {at mid next : ℕ} (first second : List ℕ) → length a < 2 ^ 64 → Wrote a at first b mid → Wrote b mid second c next → Wrote a at (first ++ second) c next
wrote_both {a} {b} {c} {at} {mid} {next} first second h p q = record {
  bytes = q.bytes ∙ rw (p.bytes, p.place) (overlaid_stopped (overlaid a at first) (at + length first) second (rw (length_overlaid a first at) h) ∙ overlaid_append a at first second);
  place = omega (arith, p.place, q.place, length-append first second);
}

pub wrote_whole : (bytes text after : List ℕ) (next : ℕ) → length bytes < 2 ^ 64 → length text ≤ length bytes → Wrote bytes 0 text after next → (after ≡ text ++ drop (length text) bytes) × (next ≡ length text)
unfolding overlaid
wrote_whole bytes text after next h fits w =
    (w.bytes ∙ same_lists _ _ (search (rules, places)) (λ k d h. grind (arith, places)), omega (arith, w.place))

pub written_none : (w : Writer) → w.at < 2 ^ 64 → Written w [] w
written_none w h = record { same_bytes = refl; wrote = wrote_none w.out.now w.at h }

pub written_both : {a b c : Writer} (first second : List ℕ) → length a.out.now < 2 ^ 64 → Written a first b → Written b second c → Written a (first ++ second) c
written_both first second h p q = record { same_bytes = q.same_bytes ∙ p.same_bytes; wrote = wrote_both first second h p.wrote q.wrote }

pub writing_laws : WritingLaws
writing_laws = record {
  inside = λ bytes text at k d short here. grind (arith, get_or_overlaid_in);
  before = get_or_overlaid_before;
  behind = get_or_overlaid_behind;
  as_long = length_overlaid;
  joined = λ a b c first second at mid next. wrote_both first second;
  whole = wrote_whole;
}

-- a signed number's text is a minus sign and the digits below 0, and else the digits: for whoever looks at what was written
pub signed_below : (n : ℤ) → n <ℤ pos 0 → signed_decimal n ≡ 45 ∷ decimal (nat_abs n)
signed_below (pos n) h = absurd (omega (arith, ints))
signed_below (negsuc n) h = refl

pub signed_from : (n : ℤ) → pos 0 ≤ℤ n → signed_decimal n ≡ decimal (nat_abs n)
signed_from (pos n) h = refl
signed_from (negsuc n) h = absurd (omega (arith, ints))
