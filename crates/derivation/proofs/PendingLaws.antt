-- The pending goals: the first of them, what is left without it, and the premises of a rule put in front. One law for each way that the code goes.
-- Assumes nothing.
use mathlib.Core.Path.{◌≡◌, refl, sym, subst, ap, ap₂, ◌∙◌}
use mathlib.Core.Bool.{Bool, true, false, not}
use mathlib.Core.Logic.{◌⊎◌, inl, inr}
use mathlib.Core.List.{List, [], ◌∷◌, ◌++◌, append_assoc}
use Prim.Native.Nat.{ℕ, zero, suc, ◌+◌, ◌*◌, ◌-◌, ◌/◌, ◌≤◌, ◌<◌}
use native.Mathlib.Numerals.{add-one}
use native.Mathlib.Omega.{arith}
use lib.Dec.{ltb, eqb}
use lib.ListN.{length, drop}
use borrow.Author.Tests.{ltb-true, ltb-false, eqb-true, eqb-false, not-true, not-false, eq-eqb, ne_eqb}
use Rattle.words.specs.Word.{word, put_word}
use Rattle.words.specs.Kept.{Kept}
use Rattle.words.proofs.WordLaws.{length-put_word, word_same, word_other}
use Rattle.words.proofs.KeptLaws.{kept_put, kept_same, kept_both, word_below}
use Rattle.format.specs.declared.values.Goal.{Goal}
use Rattle.format.specs.Values.{goal}
use Rattle.format.specs.Goals.{goals_at}
use Rattle.derivation.specs.declared.pending.Pending.{Pending}
use Rattle.std.specs.Prelude.{None, Some}
use Rattle.derivation.specs.Layout.{cursors_place}
use Rattle.derivation.specs.Pending.{place_in, left_in, waiting, first_entry, last_roots, pending_in, Cursor, Pends, carries_first, Takes, RuleInside, Pushes}

split : (i k : ℕ) → (i < k) ⊎ (k ≤ i)
split i k = go (ltb i k) refl
  where
    go : (b : Bool) → ltb i k ≡ b → (i < k) ⊎ (k ≤ i)
    go true e = inl (ltb-true i k e)
    go false e = inr (ltb-false i k e)

-- the first of some goals, and the others
goals_first : (s : List ℕ) (at n : ℕ) → 0 < n → goals_at s at n ≡ goal (word s at) ∷ goals_at s (at + 2) (n - 1)
unfolding goals_at
goals_first s at zero h = absurd (omega arith)
goals_first s at (suc n) h = ap {B = List Goal} (λ l. goal (word s at) ∷ l) (ap (goals_at s (at + 2)) (let e : n ≡ suc n - 1 = omega arith in e))

-- cursors below a write
module _ (table w w' : List ℕ) (low high : ℕ) (k : Kept w w' low high) where
  place_kept : (d : ℕ) → cursors_place + d * 4 + 4 ≤ low → place_in w' d ≡ place_in w d
  unfolding place_in
  place_kept d h = word_below w w' low high k (cursors_place + d * 4) (omega arith)

  left_kept : (d : ℕ) → cursors_place + d * 4 + 4 ≤ low → left_in w' d ≡ left_in w d
  unfolding left_in
  left_kept d h = word_below w w' low high k (cursors_place + d * 4 + 2) (omega arith)

  waiting_kept : (d : ℕ) → cursors_place + d * 4 ≤ low → waiting table w' d ≡ waiting table w d
  unfolding waiting
  waiting_kept zero h = refl
  waiting_kept (suc d) h =
      ap₂ (λ (a b : List Goal). a ++ b) (ap₂ (λ (a b : ℕ). goals_at table a b) (place_kept d (omega arith)) (left_kept d (omega arith))) (waiting_kept d (omega arith))

  cursor_kept : (d : ℕ) → cursors_place + d * 4 + 4 ≤ low → Cursor table (place_in w d) (left_in w d) → Cursor table (place_in w' d) (left_in w' d)
  cursor_kept d h c = record { some_left = omega (arith, left_kept d h, c.some_left); inside = omega (arith, place_kept d h, left_kept d h, c.inside) }

-- the pending goals below a write
module _ (table flat : List ℕ) (roots : ℕ) (w w' : List ℕ) (p : Pending) (low high : ℕ) (k : Kept w w' low high) (h : cursors_place + p.lists * 4 ≤ low) where
  pub pending-kept : pending_in table flat roots w' p ≡ pending_in table flat roots w p
  pending-kept = ap (λ (g : List Goal). g ++ last_roots flat roots p.roots) (waiting_kept table w w' low high k p.lists h)

  pub pends_kept : length w' ≡ length w → Pends table flat roots w p → Pends table flat roots w' p
  pends_kept size q = record {
    cursors = λ d l. cursor_kept table w w' low high k d (omega arith) (q.cursors d l);
    room = omega (arith, q.room);
    few_roots = q.few_roots;
    roots_inside = q.roots_inside;
  }

-- a cursor stored behind those of so many lists
module _ (table w w₁ w₂ : List ℕ) (d place left : ℕ) (first : w₁ ≡ put_word w (cursors_place + d * 4) place) (second : w₂ ≡ put_word w₁ (cursors_place + d * 4 + 2) left)
    (room : cursors_place + d * 4 + 4 ≤ length w) where
  abbrev low : ℕ
  low = cursors_place + d * 4

  size_first : length w₁ ≡ length w
  size_first = ap length first ∙ length-put_word w low place

  stored_size : length w₂ ≡ length w
  stored_size = ap length second ∙ length-put_word w₁ (low + 2) left ∙ size_first

  stored_place : place_in w₂ d ≡ place
  unfolding place_in
  stored_place = rw (second, word_other w₁ (low + 2) left low (inl (omega arith)), first) (word_same w low place (omega arith))

  stored_left : left_in w₂ d ≡ left
  unfolding left_in
  stored_left = rw second (word_same w₁ (low + 2) left (omega (arith, size_first)))

  stored_kept : Kept w w₂ low (low + 4)
  stored_kept =
      kept_both w w₁ w₂ low (low + 4) low (low + 4) low (low + 4)
      (subst (λ (v : List ℕ). Kept w v low (low + 4)) (sym first) (kept_put w low place low (low + 4) (omega arith) (omega arith)))
      (subst (λ (v : List ℕ). Kept w₁ v low (low + 4)) (sym second) (kept_put w₁ (low + 2) left low (low + 4) (omega arith) (omega arith)))
      (omega arith) (omega arith) (omega arith) (omega arith)

  stored_waiting : waiting table w₂ (suc d) ≡ goals_at table place left ++ waiting table w d
  unfolding waiting
  stored_waiting = ap₂ (λ (a b : List Goal). a ++ b) (ap₂ (λ (a b : ℕ). goals_at table a b) stored_place stored_left) (waiting_kept table w w₂ low (low + 4) stored_kept d (omega arith))

  stored_cursors : ((i : ℕ) → i < d → Cursor table (place_in w i) (left_in w i)) → Cursor table place left → (i : ℕ) → i < suc d → Cursor table (place_in w₂ i) (left_in w₂ i)
  stored_cursors cs c i l = go (split i d)
    where
      go : (i < d) ⊎ (d ≤ i) → Cursor table (place_in w₂ i) (left_in w₂ i)
      go (inl m) = cursor_kept table w w₂ low (low + 4) stored_kept i (omega arith) (cs i m)
      go (inr m) =
          let e : d ≡ i = omega arith in
          subst (λ (j : ℕ). Cursor table (place_in w₂ j) (left_in w₂ j)) e (record { some_left = omega (arith, stored_left, c.some_left); inside = omega (arith, stored_place, stored_left, c.inside) })

-- a goal is compared with another by `!=`
pub others_told : (a b : ℕ) (r : Bool) → r ≡ not (eqb a b) → r ≡ true → a ≡ b → ⊥
others_told a b r e t = eqb-false a b (not-true (eqb a b) (sym e ∙ t))

pub same_told : (a b : ℕ) (r : Bool) → r ≡ not (eqb a b) → r ≡ false → a ≡ b
same_told a b r e t = eqb-true a b (not-false (eqb a b) (sym e ∙ t))

-- the first pending goal is compared with another
other_first : (γ : Goal) (v : ℕ) (g others : List Goal) → g ≡ goal v ∷ others → (r : ℕ) → r ≡ v → (γ.0 ≡ r → ⊥) → carries_first γ g ≡ false
unfolding carries_first
other_first γ v g others e r is n = rw e (ne_eqb γ.0 v (λ q. n (q ∙ sym is)))

this_first : (γ : Goal) (v : ℕ) (g others : List Goal) → g ≡ goal v ∷ others → (r : ℕ) → r ≡ v → γ.0 ≡ r → carries_first γ g ≡ true
unfolding carries_first
this_first γ v g others e r is q = rw e (eq-eqb γ.0 v (q ∙ is))

without_first : {γ : Goal} {g others rest : List Goal} → g ≡ γ ∷ others → rest ≡ others → rest ≡ drop 1 g
without_first e f = f ∙ ap (λ (x : List Goal). drop 1 x) (sym e)

-- nothing is pending
pub none_pending_lem : (table flat : List ℕ) (roots : ℕ) (w : List ℕ) (p : Pending) → p.lists + p.roots ≡ 0 → pending_in table flat roots w p ≡ []
unfolding waiting goals_at
none_pending_lem table flat roots w p z =
    let no-lists : p.lists ≡ 0 = omega arith in
    let no-roots : p.roots ≡ 0 = omega arith in
    ap₂ (λ (a b : ℕ). waiting table w a ++ last_roots flat roots b) no-lists no-roots

module _ (table flat : List ℕ) (roots : ℕ) (w : List ℕ) (p : Pending) (h : Pends table flat roots w p) where
  abbrev goals : List Goal
  goals = pending_in table flat roots w p

  -- no list has goals left: the first is a root
  module _ (z : p.lists ≡ 0) where
    abbrev root_place : ℕ
    root_place = first_entry (roots - p.roots)

    from_root : 0 < p.roots → goals ≡ goal (word flat root_place) ∷ last_roots flat roots (p.roots - 1)
    unfolding waiting
    from_root some =
        let next : root_place + 2 ≡ first_entry (roots - (p.roots - 1)) = omega (arith, h.few_roots) in
        ap (λ (d : ℕ). waiting table w d ++ last_roots flat roots p.roots) z
        ∙ goals_first flat root_place p.roots some
        ∙ ap {B = List Goal} (λ l. goal (word flat root_place) ∷ l) (ap (λ (k : ℕ). goals_at flat k (p.roots - 1)) next)

    module _ (γ : Goal) where
      pub none_taken : p.roots ≡ 0 → Takes table flat roots w w p γ None
      unfolding Takes carries_first
      none_taken e = (ap (carries_first γ) (none_pending_lem table flat roots w p (omega arith)), refl)

      module _ (some : p.roots ≡ 0 → ⊥) (r : ℕ) (r-is : r ≡ word flat root_place) where
        some_root : 0 < p.roots
        some_root = omega arith

        pub other_root : (γ.0 ≡ r → ⊥) → Takes table flat roots w w p γ None
        unfolding Takes
        other_root n = (other_first γ _ goals _ (from_root some_root) r r-is n, refl)

        pub root_taken : γ.0 ≡ r → Takes table flat roots w w p γ (Some (record { lists = p.lists; roots = p.roots - 1 }))
        unfolding Takes waiting
        root_taken e = (
          this_first γ _ goals _ (from_root some_root) r r-is e,
          record {
            others = without_first (from_root some_root) (ap (λ (d : ℕ). waiting table w d ++ last_roots flat roots (p.roots - 1)) z);
            pends = record { cursors = h.cursors; room = h.room; few_roots = omega (arith, h.few_roots); roots_inside = h.roots_inside };
            few = omega arith;
            kept = kept_same w _ _;
          },
        )

  -- the first is that of the last list
  module _ (n : p.lists ≡ 0 → ⊥) where
    abbrev d : ℕ
    d = p.lists - 1

    all : p.lists ≡ suc d
    all = omega arith

    at_place : cursors_place + p.lists * 4 - 4 ≡ cursors_place + d * 4
    at_place = omega arith

    at_left : cursors_place + p.lists * 4 - 4 + 2 ≡ cursors_place + d * 4 + 2
    at_left = omega arith

    abbrev behind : List Goal
    behind = last_roots flat roots p.roots

    abbrev others : (left : ℕ) → List Goal
    others k = (goals_at table (place_in w d + 2) k ++ waiting table w d) ++ behind

    top : Cursor table (place_in w d) (left_in w d)
    top = h.cursors d (omega arith)

    from_list : goals ≡ goal (word table (place_in w d)) ∷ others (left_in w d - 1)
    unfolding waiting
    from_list =
        ap (λ (k : ℕ). waiting table w k ++ behind) all
        ∙ ap (λ (g : List Goal). (g ++ waiting table w d) ++ behind) (goals_first table (place_in w d) (left_in w d) top.some_left)

    module _ (place : ℕ) (place_is : place ≡ word w (cursors_place + p.lists * 4 - 4)) where
      told_place : place ≡ place_in w d
      unfolding place_in
      told_place = place_is ∙ ap (word w) at_place

      pub goal_inside : place + 2 ≤ length table
      goal_inside = omega (arith, told_place, top)

      module _ (γ : Goal) (r : ℕ) (r-is : r ≡ word table place) where
        first_is : r ≡ word table (place_in w d)
        first_is = r-is ∙ ap (word table) told_place

        pub other_listed : (γ.0 ≡ r → ⊥) → Takes table flat roots w w p γ None
        unfolding Takes
        other_listed m = (other_first γ _ goals _ from_list r first_is m, refl)

        module _ (e : γ.0 ≡ r) (left : ℕ) (left_is : left ≡ word w (cursors_place + p.lists * 4 - 4 + 2)) where
          told_left : left ≡ left_in w d
          unfolding left_in
          told_left = left_is ∙ ap (word w) at_left

          pub last_taken : left ≡ 1 → Takes table flat roots w w p γ (Some (record { lists = p.lists - 1; roots = p.roots }))
          unfolding Takes goals_at
          last_taken one = (
            this_first γ _ goals _ from_list r first_is e,
            record {
              others = without_first from_list (sym (ap (λ (k : ℕ). others (k - 1)) (sym told_left ∙ one)));
              pends = record { cursors = λ i l. h.cursors i (omega arith); room = omega (arith, h.room); few_roots = h.few_roots; roots_inside = h.roots_inside };
              few = omega arith;
              kept = kept_same w _ _;
            },
          )

          module _ (more : left ≡ 1 → ⊥) where
            pub two_left : (2 ≤ left) × (place + left * 2 ≤ length table)
            two_left = (omega (arith, told_left, top.some_left), omega (arith, told_left, told_place, top.inside))

            pub one_taken : (w₁ w₂ : List ℕ) → w₁ ≡ put_word w (cursors_place + p.lists * 4 - 4) (place + 2) → w₂ ≡ put_word w₁ (cursors_place + p.lists * 4 - 4 + 2) (left - 1) → Takes table flat roots w w₂ p γ (Some p)
            unfolding Takes
            one_taken w₁ w₂ a b =
                let first : w₁ ≡ put_word w (cursors_place + d * 4) (place_in w d + 2) = a ∙ ap₂ (λ (x y : ℕ). put_word w x (y + 2)) at_place told_place in
                let second : w₂ ≡ put_word w₁ (cursors_place + d * 4 + 2) (left_in w d - 1) = b ∙ ap₂ (λ (x y : ℕ). put_word w₁ x (y - 1)) at_left told_left in
                let fits : cursors_place + d * 4 + 4 ≤ length w = omega (arith, h.room) in
                let kept = stored_kept table w w₁ w₂ d (place_in w d + 2) (left_in w d - 1) first second fits in
                let two = two_left in (
                  this_first γ _ goals _ from_list r first_is e,
                  record {
                    others = without_first from_list (ap (λ (k : ℕ). waiting table w₂ k ++ behind) all ∙ ap (λ (g : List Goal). g ++ behind) (stored_waiting table w w₁ w₂ d (place_in w d + 2) (left_in w d - 1) first second fits));
                    pends = record {
                      cursors = λ i l. stored_cursors table w w₁ w₂ d (place_in w d + 2) (left_in w d - 1) first second fits (λ j m. h.cursors j (omega arith))
                          (record { some_left = omega (arith, told_left, two); inside = omega (arith, told_left, told_place, two) }) i (omega arith);
                      room = omega (arith, stored_size table w w₁ w₂ d (place_in w d + 2) (left_in w d - 1) first second fits, h.room);
                      few_roots = h.few_roots;
                      roots_inside = h.roots_inside;
                    };
                    few = omega arith;
                    kept = record { below = λ i l. kept.below i (omega arith); above = λ i l. kept.above i (omega arith) };
                  },
                )

  -- where something is pending, there is a first goal
  pub some_first : 0 < p.lists + p.roots → (γ : Goal) × (others : List Goal) × (goals ≡ γ ∷ others)
  some_first some = go (split 0 p.lists)
    where
      go : (0 < p.lists) ⊎ (p.lists ≤ 0) → (γ : Goal) × (others : List Goal) × (goals ≡ γ ∷ others)
      go (inl l) = (_, _, from_list (λ e. omega arith))
      go (inr l) = let z : p.lists ≡ 0 = omega arith in (_, _, from_root z (omega arith))

-- the premises of a rule in front
module _ (table flat : List ℕ) (roots : ℕ) (w : List ℕ) (rule : ℕ) (p : Pending) (h : Pends table flat roots w p) (len : ℕ) (len_is : len ≡ word table (rule + 1)) where
  abbrev count : ℕ
  count = len / 2 - 2

  -- a rule without premises
  pub push_none : count ≡ 0 → Pushes table flat roots w w rule p p
  unfolding goals_at
  push_none z = record {
    in_front = sym (ap (λ (k : ℕ). goals_at table (rule + 7) k ++ pending_in table flat roots w p) (ap (λ (l : ℕ). l / 2 - 2) (sym len_is) ∙ z));
    pends = h;
    few = omega arith;
    kept = kept_same w _ _;
  }

  -- a cursor more
  pub push_list : RuleInside table rule → (count ≡ 0 → ⊥) → (w₁ w₂ : List ℕ) → w₁ ≡ put_word w (cursors_place + p.lists * 4) (rule + 7) → w₂ ≡ put_word w₁ (cursors_place + p.lists * 4 + 2) count
      → cursors_place + p.lists * 4 + 4 ≤ length w → Pushes table flat roots w w₂ rule p (record { lists = p.lists + 1; roots = p.roots })
  push_list ri some w₁ w₂ first second fits =
      let premises = goals_at table (rule + 7) count in
      let behind = last_roots flat roots p.roots in
      let kept = stored_kept table w w₁ w₂ p.lists (rule + 7) count first second fits in
      let n : (count ≡ 0 → ⊥) = some in
      record {
        in_front =
            ap (λ (k : ℕ). waiting table w₂ k ++ behind) (add-one p.lists)
            ∙ ap (λ (g : List Goal). g ++ behind) (stored_waiting table w w₁ w₂ p.lists (rule + 7) count first second fits)
            ∙ append_assoc premises (waiting table w p.lists) behind
            ∙ ap (λ (l : ℕ). goals_at table (rule + 7) (l / 2 - 2) ++ pending_in table flat roots w p) len_is;
        pends = record {
          cursors = λ i l. stored_cursors table w w₁ w₂ p.lists (rule + 7) count first second fits h.cursors (record { some_left = omega arith; inside = omega (arith, len_is, ri) }) i (omega arith);
          room = omega (arith, stored_size table w w₁ w₂ p.lists (rule + 7) count first second fits);
          few_roots = h.few_roots;
          roots_inside = h.roots_inside;
        };
        few = omega arith;
        kept = record { below = λ i l. kept.below i (omega arith); above = kept.above };
      }
