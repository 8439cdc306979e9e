-- A term asked for its arity, by its tag: what was said of the form is said of every walk that may stand there.
-- Assumes nothing.
use Prim.Native.Nat.{ℕ, ◌+◌, ◌*◌, ◌-◌, ◌≤◌, ◌<◌}
use mathlib.Core.Path.{◌≡◌, refl, sym, ap, subst, ◌∙◌}
use mathlib.Core.List.{List}
use mathlib.Core.Option.{none}
use native.Mathlib.Omega.{arith}
use lib.ListN.{length, get_or}
use Rattle.std.specs.Prelude as std
use Rattle.std.specs.Prelude.{Some, None}
use Rattle.words.specs.Word.{word, put_word}
use Rattle.format.specs.declared.values.TacticNo.{TacticNo}
use Rattle.format.specs.Terms.{Term, atomic, id, label, sequence, tensor, empty, alternation, assert, defined, size}
use Rattle.format.specs.Standing.{Stands}
use Rattle.format.proofs.StandsLaws.{tag_of, known}
use Rattle.format.proofs.ByTag.{by_tag}
use Rattle.tables.specs.Tables.{Table}
use Rattle.tables.specs.Lookup.{find_body}
use Rattle.tables.specs.Found.{FindsBody, BodyStands}
use Rattle.evaluation.specs.TacticArity.{arity_in, body_arity}
use Rattle.evaluation.proofs.UnfoldingLaws.{after_fixed}
use Rattle.tactics.specs.Numbers.{put_header}
use Rattle.arities.specs.Layout.{frames_end}
use Rattle.arity_notes.specs.Regions.{regions_end}
use Rattle.arities.specs.Arities.{arity_code, arities}
use Rattle.arities.proofs.ArityLaws.{pair_of}
use Rattle.arity_notes.specs.declared.walk.Next.{Next}
use Rattle.arity_notes.specs.declared.walk.Next.TheVariants as N
use Rattle.arity_notes.specs.declared.walk.Walk.{Walk}
use Rattle.arity_notes.specs.Waits.{sums, commons, combine, Wait, left_kind}
use Rattle.arity_notes.specs.Asked.{Turn, asks, tells, asked_by, TurnIs, turn_weight, stack_weight}
use Rattle.arity_notes.specs.Cells.{cell, unwalked}
use Rattle.arity_notes.specs.Noting.{AskedNoted}
use Rattle.arity_notes.specs.Walks.{Mode, Walking, Turned, Given, Turns, TacticGiven, TacticTurns}
use Rattle.arity_notes.proofs.CellLaws.{cell_tells}
use Rattle.arity_notes.proofs.TurnLaws.{asked_top, told, leads, waits, enters}

-- a walk does not ask and tell at once, and asks one term
pub not_both : (x : Next) (i j : ℕ) → x ≡ N.Asks i → x ≡ N.Tells j → ⊥
not_both x i j e f = cc

asks_same : (x : Next) (i j : ℕ) → x ≡ N.Asks i → x ≡ N.Asks j → i ≡ j
asks_same x i j e f = cc

module _ (bytes : List ℕ) (first : ℕ) (src : List ℕ) (base : ℕ) (w : List ℕ) (s : Walk) (here : ℕ) (asking : s.next ≡ N.Asks here) where
  abbrev Ends : (v : List ℕ) → Walk → Mode → Table → ℕ → List Wait → Term → Type 0
  Ends v r m T at k t = Walking m T bytes first src base w s (asks at t) k → Turned m T bytes first src base w (turn_weight (asks at t) + stack_weight k + unwalked w T.definitions) v r

  -- some term is asked
  by_asks : (v : List ℕ) (r : Walk) → ((m : Mode) (T : Table) (at : ℕ) (t : Term) (k : List Wait) → here ≡ at → Stands src at t → Ends v r m T at k t) → Turns bytes first src base w s v r
  unfolding TurnIs
  by_asks v r f m T (asks at t) k q = f m T at t k (asks_same s.next here at asking q.turn_is.0) q.turn_is.1 q
  by_asks v r f m T (tells end a) k q = absurd (not_both s.next here _ asking q.turn_is)

  -- what is given of it
  given_term : Given bytes first src base w s → (t : Term) × Stands src here t × (s.top ≤ 196608) × (regions_end ≤ length w) × (length src < 65536)
  unfolding TurnIs
  given_term g = go g.turn g.walking
    where
      go : (c : Turn) → Walking g.mode g.table bytes first src base w s c g.stack → (t : Term) × Stands src here t × (s.top ≤ 196608) × (regions_end ≤ length w) × (length src < 65536)
      go (asks at t) q = (t, subst (λ (i : ℕ). Stands src i t) (sym (asks_same s.next here at asking q.turn_is.0)) q.turn_is.1, (asked_top g.mode g.table bytes first src base w s at t g.stack q).0, q.space, q.small)
      go (tells end a) q = absurd (not_both s.next here _ asking q.turn_is)

  pub given_room : Given bytes first src base w s → (here + 3 ≤ length src) × (s.top ≤ 196608) × (regions_end ≤ length w) × (length src < 65536)
  given_room g =
      let x = given_term g in
      let y = known src here x.0 x.1 in
      (omega (arith, y.inside, y.three), x.2, x.3, x.4)

  pub given_five : Given bytes first src base w s → get_or src here 0 ≡ 24 → here + 5 ≤ length src
  given_five g e = let x = given_term g in by_tag src here (λ t. here + 5 ≤ length src) 24 (λ d v. v.inside) e x.0 x.1

  pub given_tactic : (number : ℕ) → number ≡ word src (here + 3) → get_or src here 0 ≡ 24 → Given bytes first src base w s → TacticGiven bytes first w s number
  unfolding TurnIs
  given_tactic number n e g = go g.turn g.walking
    where
      go : (c : Turn) → Walking g.mode g.table bytes first src base w s c g.stack → TacticGiven bytes first w s number
      go (asks at t) q =
          by_tag src at (λ x. Walking g.mode g.table bytes first src base w s (asks at x) g.stack → TacticGiven bytes first w s number) 24
          (λ d v y. record { src = src; base = base; mode = g.mode; table = g.table; at = at; tactic = d; stack = g.stack; number_is = n ∙ ap (λ (i : ℕ). word src (i + 3)) (asks_same s.next here at asking q.turn_is.0) ∙ v.value_is; walking = y })
          (ap (λ (i : ℕ). get_or src i 0) (sym (asks_same s.next here at asking q.turn_is.0)) ∙ e) t q.turn_is.1 q
      go (tells end a) q = absurd (not_both s.next here _ asking q.turn_is)

  abbrev At3 : ℕ → ℕ → Walk
  At3 at top = record { next = N.Asks (at + 3); top = top }

  pub ask_sequence : get_or src here 0 ≡ 19 → (r : Walk) → r ≡ At3 here s.top → Turns bytes first src base w s w r
  ask_sequence e r ri = by_asks w r λ m T at t k p st.
      by_tag src at (Ends w r m T at k) 19
      (λ x y z q. subst (Turned m T bytes first src base w (turn_weight (asks at (sequence x y)) + stack_weight k + unwalked w T.definitions) w) (sym (ri ∙ ap (λ (i : ℕ). At3 i s.top) p))
      (leads m T bytes first src base w s at x y k q z.first))
      (ap (λ (i : ℕ). get_or src i 0) (sym p) ∙ e) t st

  pub ask_tensor : get_or src here 0 ≡ 20 → (v : List ℕ) (r : Walk) → v ≡ put_header w s.top 1 here → r ≡ At3 here (s.top + 3) → Turns bytes first src base w s v r
  unfolding size asked_by arity_in combine AskedNoted left_kind
  ask_tensor e v r vi ri = by_asks v r λ m T at t k p st.
      by_tag src at (Ends v r m T at k) 20
      (λ x y z q. subst (Turned m T bytes first src base w (turn_weight (asks at (tensor x y)) + stack_weight k + unwalked w T.definitions) v) (sym (ri ∙ ap (λ (i : ℕ). At3 i (s.top + 3)) p))
      (waits m T bytes first src base w s sums at (tensor x y) x y k q refl (pair_of src at x y z) q.asked (λ o a b c. (a, b, c)) v (vi ∙ ap (put_header w s.top 1) p)))
      (ap (λ (i : ℕ). get_or src i 0) (sym p) ∙ e) t st

  pub ask_alternation : get_or src here 0 ≡ 22 → (v : List ℕ) (r : Walk) → v ≡ put_header w s.top 3 here → r ≡ At3 here (s.top + 3) → Turns bytes first src base w s v r
  unfolding size asked_by arity_in combine AskedNoted left_kind
  ask_alternation e v r vi ri = by_asks v r λ m T at t k p st.
      by_tag src at (Ends v r m T at k) 22
      (λ x y z q. subst (Turned m T bytes first src base w (turn_weight (asks at (alternation x y)) + stack_weight k + unwalked w T.definitions) v) (sym (ri ∙ ap (λ (i : ℕ). At3 i (s.top + 3)) p))
      (waits m T bytes first src base w s commons at (alternation x y) x y k q refl (pair_of src at x y z) q.asked (λ o a b c. (b, c)) v (vi ∙ ap (put_header w s.top 3) p)))
      (ap (λ (i : ℕ). get_or src i 0) (sym p) ∙ e) t st

  pub ask_defined : get_or src here 0 ≡ 24 → (number : ℕ) → number ≡ word src (here + 3) → (v : List ℕ) (r : Walk) → TacticTurns bytes first w s number v r → Turns bytes first src base w s v r
  ask_defined e number n v r f = by_asks v r λ m T at t k p st.
      by_tag src at (Ends v r m T at k) 24 (λ d x q. f src base m T at d k (n ∙ ap (λ (i : ℕ). word src (i + 3)) p ∙ x.value_is) q) (ap (λ (i : ℕ). get_or src i 0) (sym p) ∙ e) t st

  pub ask_empty : get_or src here 0 ≡ 21 → (r : Walk) → r ≡ record { next = N.Tells (1); top = s.top } → Turns bytes first src base w s w r
  unfolding arity_in AskedNoted
  ask_empty e r ri = by_asks w r λ m T at t k p st.
      by_tag src at (Ends w r m T at k) 21
      (λ q. subst (Turned m T bytes first src base w (turn_weight (asks at empty) + stack_weight k + unwalked w T.definitions) w) (sym ri) (told m T bytes first src base w s at empty k q 1 refl (λ x. tt)))
      (ap (λ (i : ℕ). get_or src i 0) (sym p) ∙ e) t st

  -- the forms that take one goal
  pub ask_one : (get_or src here 0 ≡ 19 → ⊥) → (get_or src here 0 ≡ 20 → ⊥) → (get_or src here 0 ≡ 22 → ⊥) → (get_or src here 0 ≡ 24 → ⊥) → (get_or src here 0 ≡ 21 → ⊥)
      → (r : Walk) → r ≡ record { next = N.Tells (2); top = s.top } → Turns bytes first src base w s w r
  unfolding arity_in AskedNoted tag_of
  ask_one n₁ n₂ n₃ n₄ n₅ r ri = by_asks w r λ m T at t k p st. go m T at k t (ap (λ (i : ℕ). get_or src i 0) p ∙ (known src at t st).tag_is)
    where
      one : (m : Mode) (T : Table) (at : ℕ) (k : List Wait) (t : Term) → 2 ≡ arity_code (arity_in (arities T) t) → ((x : List ℕ) → AskedNoted x base (arities T) at t) → Ends w r m T at k t
      one m T at k t e f q = subst (Turned m T bytes first src base w (turn_weight (asks at t) + stack_weight k + unwalked w T.definitions) w) (sym ri) (told m T bytes first src base w s at t k q 2 e f)

      go : (m : Mode) (T : Table) (at : ℕ) (k : List Wait) (t : Term) → get_or src here 0 ≡ tag_of t → Ends w r m T at k t
      go m T at k (atomic a) e = one m T at k (atomic a) refl (λ x. tt)
      go m T at k id e = one m T at k id refl (λ x. tt)
      go m T at k (label l u) e = one m T at k (label l u) refl (λ x. tt)
      go m T at k (sequence a b) e = absurd (n₁ e)
      go m T at k (tensor a b) e = absurd (n₂ e)
      go m T at k empty e = absurd (n₅ e)
      go m T at k (alternation a b) e = absurd (n₃ e)
      go m T at k (assert γ) e = one m T at k (assert γ) refl (λ x. tt)
      go m T at k (defined d) e = absurd (n₄ e)

-- a defined tactic
module _ (bytes : List ℕ) (first : ℕ) (w : List ℕ) (s : Walk) (number : ℕ) (small : number < 65536) where
  module _ (g : TacticGiven bytes first w s number) where
    pub tactic_room : (s.top ≤ 196608) × (regions_end ≤ length w)
    tactic_room = ((asked_top g.mode g.table bytes first g.src g.base w s g.at (defined g.tactic) g.stack g.walking).0, g.walking.space)

  pub tactic_known : (n : ℕ) → n ≡ cell w number → (n ≡ 0 → ⊥) → (r : Walk) → r ≡ record { next = N.Tells (n - 1); top = s.top } → TacticTurns bytes first w s number w r
  unfolding arity_in AskedNoted asked_by
  tactic_known n e z r ri src base m T at d k p q =
      subst (Turned m T bytes first src base w (turn_weight (asks at (defined d)) + stack_weight k + unwalked w T.definitions) w) (sym ri)
      (told m T bytes first src base w s at (defined d) k q (n - 1) (cell_tells T w k d (omega (arith, small, p)) q.cells q.asked n (e ∙ ap (cell w) p) z) (λ x. tt))

  module _ (x : std.Option ℕ) (n : TacticNo) (n_is : n.0 ≡ number) (f : FindsBody bytes first n x) where
    same_tactic_lem : (d : TacticNo) → number ≡ d.0 → n ≡ d
    same_tactic_lem d p = λ i. record { 0 = (n_is ∙ p) i }

    pub tactic_missing : x ≡ None → (r : Walk) → r ≡ record { next = N.Tells (0); top = s.top } → TacticTurns bytes first w s number w r
    unfolding arity_in AskedNoted asked_by BodyStands find_body
    tactic_missing y r ri src base m T at d k p q =
        let b : find_body T n ≡ none = subst (λ (o : std.Option ℕ). BodyStands bytes o (find_body T n)) y (f T q.table_stands).0 in
        let c : find_body T d ≡ none = ap (find_body T) (sym (same_tactic_lem d p)) ∙ b in
        let a : arities T d ≡ none = after_fixed T.definitions d ∙ ap (body_arity (arities T)) c in
        subst (Turned m T bytes first src base w (turn_weight (asks at (defined d)) + stack_weight k + unwalked w T.definitions) w) (sym ri)
        (told m T bytes first src base w s at (defined d) k q 0 (ap arity_code (sym a)) (λ o. tt))

    pub tactic_enters : (place : ℕ) → x ≡ Some place → cell w number ≡ 0 → (v : List ℕ) (r : Walk) → v ≡ put_header (put_word w (frames_end + number * 2) 1) s.top 5 number
        → r ≡ record { next = N.Asks (place); top = s.top + 3 } → TacticTurns bytes first w s number v r
    unfolding BodyStands
    tactic_enters place y z v r vi ri src base m T at d k p q =
        let b = subst (λ (o : std.Option ℕ). BodyStands bytes o (find_body T n)) y (f T q.table_stands).0 in
        subst (Turned m T bytes first src base w (turn_weight (asks at (defined d)) + stack_weight k + unwalked w T.definitions) v) (sym ri)
        (enters m T bytes first src base w s at d k q (omega (arith, small, p)) (ap (cell w) (sym p) ∙ z) place b.0 (ap (find_body T) (sym (same_tactic_lem d p)) ∙ b.1) b.2 v
        (vi ∙ ap (λ (i : ℕ). put_header (put_word w (frames_end + i * 2) 1) s.top 5 i) p))
