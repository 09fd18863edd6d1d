-- Groups of a sorted batch, one row on: only the last of the keys seen can be the same as the next row's.
use Rattle.std.proofs.Common.{◌≡◌, ℕ, suc, ◌+◌, ◌-◌, ◌<◌, Bool, false, cond, List, [], ◌∷◌, ◌++◌, length, get_or, drop, Some, None, Option, Ordering, Less, Equal, Greater, sym, refl, ap, ◌∙◌, subst, arith}
use Rattle.std.specs.Cmp.{Equal-is, IsEquivalence, IsTotalOrder}
use Rattle.std.specs.Ordering.{is_eq, is_lt, ordering_reverse}
use Rattle.std.specs.List.{AllByRecursion}
use Rattle.std.proofs.ByRecursion.{All-push, All-weaker}
use Rattle.std.proofs.lemmas.List.{append-nil, length_push}
use Rattle.std.proofs.lemmas.Bool.{lt-ltb, le-ltb}
use Rattle.searchers.specs.Order.{falls, first_fall}
use Rattle.searchers.specs.Groups.{place, noticed, rise}
use Rattle.searchers.proofs.Falls.{fall_here, no_fall_here}
use Rattle.searchers.proofs.Gathers.{nothing_gathered, gathered_on, Gathering}
use Rattle.searchers.proofs.Places.{noticed_new, noticed_old}

-- behind keys that are not the same
place_behind : {K : Type 0} (same : K → K → Bool) (key : K) (older rest : List K) → AllByRecursion (λ x. same x key ≡ false) older → place same key (older ++ rest) ≡ length older + place same key rest
place_behind same key [] rest none = omega arith
place_behind same key (x ∷ older) rest none =
    ap (λ b. cond b 0 (suc (place same key (older ++ rest)))) none.0 ∙ ap suc (place_behind same key older rest none.1) ∙ omega arith

module _ {K : Type 0} (same : K → K → Bool) (order : K → K → Ordering) where
  abbrev below : K → K → Bool
  below x y = is_lt (order x y)

  -- the different keys seen, and the last row's key: it ties with the last of them, and the others are below it
  abbrev pub Trail : List K → Option K → Type 0
  Trail seen None = seen ≡ []
  Trail seen (Some last) = (older : List K) × (s : K) × (seen ≡ older ++ (s ∷ [])) × (order s last ≡ Equal) × AllByRecursion (λ x. order x last ≡ Less) older

  -- what holds of a batch without a fall after i rows
  pub record Sorting (keys : List K) (before : Option K) (ids firsts : List ℕ) (i : ℕ) : Type 0 where
    pub seen : List K
    pub trail : Trail seen before
    pub many : length seen ≡ length firsts
    pub gathers : Gathering same keys seen ids firsts i
    pub passes : first_fall (λ x y. is_lt (order x y)) before i (drop i keys) ≡ first_fall (λ x y. is_lt (order x y)) None 0 keys

  pub nothing_sorted : (keys : List K) → Sorting keys None [] [] 0
  nothing_sorted keys = record { seen = []; trail = refl; many = refl; gathers = nothing_gathered same keys; passes = refl }

  falls_is : (before : Option K) (key : K) → falls below before key ≡ is_lt (rise order before key)
  falls_is None key = refl
  falls_is (Some last) key = refl

  module _ (equality : IsEquivalence same) (ranked : IsTotalOrder order) (ties : (x y : K) → same x y ≡ is_eq (order x y)) where
    -- below the last row's key, and below one above it or tied with it
    under : (x last key : K) → order x last ≡ Less → order key last ≡ Greater → order x key ≡ Less
    under x last key l g = ranked.trans x last key l (ranked.antisymm last key ∙ ap ordering_reverse g)

    tied_under : (x last key : K) → order x last ≡ Equal → order key last ≡ Greater → order x key ≡ Less
    tied_under x last key t g = ranked.congr x last key t ∙ ranked.antisymm last key ∙ ap ordering_reverse g

    under_tied : (x last key : K) (o : Ordering) → order x last ≡ o → order key last ≡ Equal → order x key ≡ o
    under_tied x last key o l t = ranked.antisymm x key ∙ ap ordering_reverse (ranked.congr key last x t) ∙ sym (ranked.antisymm x last) ∙ l

    apart : (x key : K) → order x key ≡ Less → same x key ≡ false
    apart x key l = ties x key ∙ ap is_eq l

    itself : (key : K) → order key key ≡ Equal
    itself key = (Equal-is _).0 (sym (ties key key) ∙ equality.refl key)

    all_under : (seen : List K) (before : Option K) (key : K) → Trail seen before → rise order before key ≡ Greater → AllByRecursion (λ x. order x key ≡ Less) seen
    all_under seen None key t g = subst (AllByRecursion (λ x. order x key ≡ Less)) (sym t) tt
    all_under seen (Some last) key t g =
        subst (AllByRecursion (λ x. order x key ≡ Less)) (sym t.2)
        (All-push (λ x. order x key ≡ Less) t.0 t.1 (All-weaker (λ x. order x last ≡ Less) (λ x. order x key ≡ Less) (λ x l. under x last key l g) t.0 t.4) (tied_under t.1 last key t.3 g))

    new_place : (seen : List K) (before : Option K) (key : K) → Trail seen before → rise order before key ≡ Greater → place same key seen ≡ length seen
    new_place seen before key t g =
        let none = All-weaker (λ x. order x key ≡ Less) (λ x. same x key ≡ false) (λ x l. apart x key l) seen (all_under seen before key t g) in
        omega (arith, place_behind same key seen [] none, ap (place same key) (append-nil seen))

    old_trail : (seen : List K) (before : Option K) (key : K) → Trail seen before → rise order before key ≡ Equal → Trail seen (Some key)
    old_trail seen None key t e = absurd cc
    old_trail seen (Some last) key t e =
        (t.0, t.1, t.2, under_tied t.1 last key Equal t.3 e, All-weaker (λ x. order x last ≡ Less) (λ x. order x key ≡ Less) (λ x l. under_tied x last key Less l e) t.0 t.4)

    old_place : (seen : List K) (key : K) → Trail seen (Some key) → place same key seen + 1 ≡ length seen
    old_place seen key t =
        let none = All-weaker (λ x. order x key ≡ Less) (λ x. same x key ≡ false) (λ x l. apart x key l) t.0 t.4 in
        let here : place same key (t.1 ∷ []) ≡ 0 = ap (λ b. cond b 0 1) (ties t.1 key ∙ ap is_eq t.3) in
        omega (arith, place_behind same key t.0 (t.1 ∷ []) none, here, ap (place same key) t.2, ap length t.2, length_push t.0 t.1)

    -- a group has begun where a key ties with the last row's
    pub some_first : {keys : List K} {before : Option K} {ids firsts : List ℕ} {i : ℕ} (s : Sorting keys before ids firsts i) (key : K) → rise order before key ≡ Equal → 0 < length firsts
    some_first {before = before} s key e = omega (arith, old_place s.seen key (old_trail s.seen before key s.trail e), s.many)

    module _ {keys : List K} {before : Option K} {ids firsts : List ℕ} {i : ℕ} (s : Sorting keys before ids firsts i) (key : K) (low : i < length keys) (read : key ≡ get_or keys i key) where
      pub ends_sorting : rise order before key ≡ Less → first_fall below None 0 keys ≡ Some i
      ends_sorting e = sym s.passes ∙ fall_here below before keys i key low read (falls_is before key ∙ ap is_lt e)

      on : is_lt (rise order before key) ≡ false → first_fall below (Some key) (i + 1) (drop (i + 1) keys) ≡ first_fall below None 0 keys
      on e = sym (no_fall_here below before keys i key low read (falls_is before key ∙ e)) ∙ s.passes

      pub old_step : rise order before key ≡ Equal → Sorting keys (Some key) (ids ++ (length firsts - 1) ∷ []) firsts (i + 1)
      old_step e =
          let seen = s.seen in
          let t = old_trail seen before key s.trail e in
          let last = old_place seen key t in
          let old : place same key seen < length seen = omega arith in
          let at : length firsts - 1 ≡ place same (get_or keys i key) seen = omega (arith, last, s.many, ap (λ x. place same x seen) read) in
          let kept : noticed same (get_or keys i key) seen ≡ seen = ap (λ x. noticed same x seen) (sym read) ∙ noticed_old same key seen old in
          let is_old = lt-ltb (length firsts - 1) (length firsts) (omega (arith, last, s.many)) in
          record {
            seen = seen;
            trail = t;
            many = s.many;
            gathers = rw (kept, is_old) at (gathered_on same s.gathers (length firsts - 1) key low at s.many);
            passes = on (ap is_lt e);
          }

      pub new_step : rise order before key ≡ Greater → Sorting keys (Some key) (ids ++ (length (firsts ++ i ∷ []) - 1) ∷ []) (firsts ++ i ∷ []) (i + 1)
      new_step e =
          let seen = s.seen in
          let none = new_place seen before key s.trail e in
          let last : length (firsts ++ i ∷ []) - 1 ≡ length firsts = omega (arith, length_push firsts i) in
          let at : length firsts ≡ place same (get_or keys i key) seen = omega (arith, none, s.many, ap (λ x. place same x seen) read) in
          let grown : noticed same (get_or keys i key) seen ≡ seen ++ (key ∷ []) = ap (λ x. noticed same x seen) (sym read) ∙ noticed_new same key seen none in
          let is_new = le-ltb (length firsts) (length firsts) (omega arith) in
          record {
            seen = seen ++ (key ∷ []);
            trail = (seen, key, refl, itself key, all_under seen before key s.trail e);
            many = length_push seen key ∙ ap (λ n. n + 1) s.many ∙ sym (length_push firsts i);
            gathers = rw last (rw (grown, is_new) at (gathered_on same s.gathers (length firsts) key low at s.many));
            passes = on (ap is_lt e);
          }
