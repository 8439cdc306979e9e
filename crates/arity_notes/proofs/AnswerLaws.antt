-- An arity told to the last term that waits, by its kind.
-- Assumes nothing.
use Prim.Native.Nat.{ℕ, ◌+◌, ◌*◌, ◌-◌, ◌≤◌, ◌<◌}
use mathlib.Core.Path.{◌≡◌, sym, ap, subst, ◌∙◌}
use mathlib.Core.List.{List, [], ◌∷◌}
use mathlib.Core.Option.{Option}
use native.Mathlib.Omega.{arith}
use lib.ListN.{length, get_or}
use Rattle.words.specs.Word.{word, put_word}
use Rattle.format.specs.declared.values.TacticNo.{TacticNo}
use Rattle.format.specs.Terms.{Term, size}
use Rattle.format.proofs.StandsLaws.{known}
use Rattle.tables.specs.Tables.{Table}
use Rattle.input_arities.specs.Threads.{slot}
use Rattle.tactics.specs.Numbers.{put_header}
use Rattle.arities.specs.Layout.{frames_end}
use Rattle.arity_notes.specs.Regions.{notes_room, definitions_place, regions_end}
use Rattle.arities.specs.Arities.{arity_code, arities, Pair}
use Rattle.arity_notes.proofs.NoteLaws.{slot_inside}
use Rattle.arity_notes.specs.declared.walk.Next.TheVariants as N
use Rattle.arity_notes.specs.declared.walk.Walk.{Walk}
use Rattle.arity_notes.specs.Waits.{Both, sums, commons, combine, Wait, for_left, for_right, for_body, for_root, left_kind, right_kind, WaitIs, StackAt}
use Rattle.arity_notes.specs.Asked.{Known, Turn, asks, tells, TurnIs, turn_weight, stack_weight}
use Rattle.arity_notes.specs.Cells.{unwalked}
use Rattle.arity_notes.specs.Walks.{Mode, Walking, Turned, Given, Turns}
use Rattle.arity_notes.proofs.AskLaws.{not_both}
use Rattle.arity_notes.proofs.TurnLaws.{top_most, told_arity, combines, roots, body_small, learns, turns_right}

-- the note of the right term lies in the room of the notes
pub right_note : (src : List ℕ) (at : ℕ) (t u : Term) → Pair src at t u → length src < 65536 → (r : ℕ) → r ≡ at + 3 + size t → slot r + 2 ≤ notes_room
right_note src at t u p small r e = let z = known src (at + 3 + size t) u p.1 in slot_inside r (omega (arith, z.inside, z.three, small, e))

-- what waits, by its kind
module _ (src : List ℕ) (kind value : ℕ) (P : Wait → Type 0) where
  if_left : (b : Both) → kind ≡ left_kind b → ((at : ℕ) (t u : Term) → value ≡ at → Pair src at t u → P (for_left b at t u)) → (x : Wait) → WaitIs src kind value x → P x
  unfolding WaitIs left_kind right_kind
  if_left sums e f (for_left sums at t u) h = f at t u h.1 h.2
  if_left sums e f (for_left commons at t u) h = absurd (omega (arith, e, h.0))
  if_left sums e f (for_right sums o) h = absurd (omega (arith, e, h.0))
  if_left sums e f (for_right commons o) h = absurd (omega (arith, e, h.0))
  if_left sums e f (for_body d) h = absurd (omega (arith, e, h.0))
  if_left sums e f for_root h = absurd (omega (arith, e, h))
  if_left commons e f (for_left sums at t u) h = absurd (omega (arith, e, h.0))
  if_left commons e f (for_left commons at t u) h = f at t u h.1 h.2
  if_left commons e f (for_right sums o) h = absurd (omega (arith, e, h.0))
  if_left commons e f (for_right commons o) h = absurd (omega (arith, e, h.0))
  if_left commons e f (for_body d) h = absurd (omega (arith, e, h.0))
  if_left commons e f for_root h = absurd (omega (arith, e, h))

  if_right : (b : Both) → kind ≡ right_kind b → ((o : Option ℕ) → value ≡ arity_code o → P (for_right b o)) → (x : Wait) → WaitIs src kind value x → P x
  unfolding WaitIs left_kind right_kind
  if_right sums e f (for_left sums at t u) h = absurd (omega (arith, e, h.0))
  if_right sums e f (for_left commons at t u) h = absurd (omega (arith, e, h.0))
  if_right sums e f (for_right sums o) h = f o h.1
  if_right sums e f (for_right commons o) h = absurd (omega (arith, e, h.0))
  if_right sums e f (for_body d) h = absurd (omega (arith, e, h.0))
  if_right sums e f for_root h = absurd (omega (arith, e, h))
  if_right commons e f (for_left sums at t u) h = absurd (omega (arith, e, h.0))
  if_right commons e f (for_left commons at t u) h = absurd (omega (arith, e, h.0))
  if_right commons e f (for_right sums o) h = absurd (omega (arith, e, h.0))
  if_right commons e f (for_right commons o) h = f o h.1
  if_right commons e f (for_body d) h = absurd (omega (arith, e, h.0))
  if_right commons e f for_root h = absurd (omega (arith, e, h))

  if_body : kind ≡ 5 → ((d : TacticNo) → value ≡ d.0 → P (for_body d)) → (x : Wait) → WaitIs src kind value x → P x
  unfolding WaitIs left_kind right_kind
  if_body e f (for_left sums at t u) h = absurd (omega (arith, e, h.0))
  if_body e f (for_left commons at t u) h = absurd (omega (arith, e, h.0))
  if_body e f (for_right sums o) h = absurd (omega (arith, e, h.0))
  if_body e f (for_right commons o) h = absurd (omega (arith, e, h.0))
  if_body e f (for_body d) h = f d h.1
  if_body e f for_root h = absurd (omega (arith, e, h))

  if_root : (kind ≡ 1 → ⊥) → (kind ≡ 3 → ⊥) → (kind ≡ 2 → ⊥) → (kind ≡ 4 → ⊥) → (kind ≡ 5 → ⊥) → P for_root → (x : Wait) → WaitIs src kind value x → P x
  unfolding WaitIs left_kind right_kind
  if_root n₁ n₃ n₂ n₄ n₅ f (for_left sums at t u) h = absurd (n₁ h.0)
  if_root n₁ n₃ n₂ n₄ n₅ f (for_left commons at t u) h = absurd (n₃ h.0)
  if_root n₁ n₃ n₂ n₄ n₅ f (for_right sums o) h = absurd (n₂ h.0)
  if_root n₁ n₃ n₂ n₄ n₅ f (for_right commons o) h = absurd (n₄ h.0)
  if_root n₁ n₃ n₂ n₄ n₅ f (for_body d) h = absurd (n₅ h.0)
  if_root n₁ n₃ n₂ n₄ n₅ f for_root h = f

module _ (src : List ℕ) (base : ℕ) (w : List ℕ) (s : Walk) (arity : ℕ) (telling : s.next ≡ N.Tells arity) (deep : 0 < s.top) where
  abbrev low : ℕ
  low = s.top - 3

  abbrev kind : ℕ
  kind = get_or w low 0

  abbrev value : ℕ
  value = word w (low + 1)

  abbrev Tells : (bytes : List ℕ) → (first : ℕ) → Mode → Table → (end : ℕ) → (Known → Option ℕ) → List Wait → Type 0
  Tells bytes first m T end a k = Walking m T bytes first src base w s (tells end a) k

  -- what waits last, at the top of the stack
  module _ (bytes : List ℕ) (first : ℕ) (m : Mode) (T : Table) where
    at_top : (P : Turn → List Wait → Type 0)
        → ((end : ℕ) (a : Known → Option ℕ) (x : Wait) (k : List Wait) → Tells bytes first m T end a (x ∷ k) → s.top ≡ low + 3 → WaitIs src kind value x → StackAt src w k low → P (tells end a) (x ∷ k))
        → (c : Turn) (k : List Wait) → Walking m T bytes first src base w s c k → P c k
    unfolding TurnIs StackAt
    at_top P f (asks at t) k q = absurd (not_both s.next at arity q.turn_is.0 telling)
    at_top P f (tells end a) [] q = absurd (omega (arith, deep, q.stack))
    at_top P f (tells end a) (x ∷ k) q =
        let z = q.stack in
        let p : z.0 ≡ low = omega (arith, z.1) in
        f end a x k q (omega (arith, z.1)) (subst (λ (i : ℕ). WaitIs src (get_or w i 0) (word w (i + 1)) x) p z.2) (subst (StackAt src w k) p z.3)

  abbrev Ends : (bytes : List ℕ) → (first : ℕ) → (v : List ℕ) → Walk → Mode → Table → Turn → List Wait → Type 0
  Ends bytes first v r m T c k = Turned m T bytes first src base w (turn_weight c + stack_weight k + unwalked w T.definitions) v r

  -- what is given
  module _ (bytes : List ℕ) (first : ℕ) (g : Given bytes first src base w s) where
    pub answer_room : (3 ≤ s.top) × (s.top ≤ 196608) × (regions_end ≤ length w) × (length src < 65536) × (base + notes_room ≤ definitions_place)
    answer_room =
        let q = g.walking in (
          at_top bytes first g.mode g.table (λ c k. 3 ≤ s.top) (λ end a x k q top is st. omega (arith, top)) g.turn g.stack q,
          top_most w q.space src g.stack s.top q.stack (omega (arith, q.few)),
          q.space,
          q.small,
          q.base_is.high,
        )

    pub given_pair : (b : Both) → kind ≡ left_kind b → (t : Term) × (u : Term) × Pair src value t u
    given_pair b e =
        at_top bytes first g.mode g.table (λ c k. (t : Term) × (u : Term) × Pair src value t u)
        (λ end a x k q top is st. if_left src kind value (λ y. (t : Term) × (u : Term) × Pair src value t u) b e (λ at t u v p. (t, u, subst (λ (i : ℕ). Pair src i t u) (sym v) p)) x is) g.turn g.stack g.walking

    pub given_arity : kind ≡ 5 → value < 65536 → arity < 65535
    given_arity e small =
        at_top bytes first g.mode g.table (λ c k. arity < 65535)
        (λ end a x k q top is st. if_body src kind value (λ y. Tells bytes first g.mode g.table end a (y ∷ k) → arity < 65535) e
        (λ d v q. body_small g.mode g.table bytes first src base w s end a d k low q arity telling (omega (arith, small, v)) top st) x is q) g.turn g.stack g.walking

  pub answer_left : (b : Both) → kind ≡ left_kind b → (n : ℕ) → n ≡ value → (v : List ℕ) (r : Walk)
      → ((t u : Term) → Pair src n t u → (v ≡ put_header (put_word w (base + slot (n + 3 + size t)) arity) low (right_kind b) arity) × (r ≡ record { next = N.Asks (n + 3 + size t); top = s.top }))
      → (bytes : List ℕ) (first : ℕ) → Turns bytes first src base w s v r
  answer_left b e n ni v r f bytes first m T = at_top bytes first m T (Ends bytes first v r m T) λ end a x k q top is st.
      if_left src kind value (λ y. Tells bytes first m T end a (y ∷ k) → Ends bytes first v r m T (tells end a) (y ∷ k)) b e
      (λ at t u vi p q.
      let h = f t u (subst (λ (i : ℕ). Pair src i t u) (sym (ni ∙ vi)) p) in
      subst (λ (y : Walk). Ends bytes first v y m T (tells end a) (for_left b at t u ∷ k)) (sym h.1)
      (turns_right m T bytes first src base w s end a b at t u k low (n + 3 + size t) q arity telling p (ap (λ (i : ℕ). i + 3 + size t) (ni ∙ vi)) top st v h.0)) x is q

  pub answer_right : (b : Both) → kind ≡ right_kind b → (n : ℕ) → ((l o : Option ℕ) → value ≡ arity_code l → arity ≡ arity_code o → n ≡ arity_code (combine b l o)) → (r : Walk) → r ≡ record { next = N.Tells (n); top = low }
      → (bytes : List ℕ) (first : ℕ) → Turns bytes first src base w s w r
  answer_right b e n f r ri bytes first m T = at_top bytes first m T (Ends bytes first w r m T) λ end a x k q top is st.
      if_right src kind value (λ y. Tells bytes first m T end a (y ∷ k) → Ends bytes first w r m T (tells end a) (y ∷ k)) b e
      (λ o vi q. subst (λ (y : Walk). Ends bytes first w y m T (tells end a) (for_right b o ∷ k)) (sym ri)
      (combines m T bytes first src base w s end a b o k low q top st n (f o (a (arities T)) vi (told_arity m T bytes first src base w s end a (for_right b o) k q arity telling)))) x is q

  pub answer_body : kind ≡ 5 → value < 65536 → (v : List ℕ) (r : Walk) → v ≡ put_word w (frames_end + value * 2) (arity + 1) → r ≡ record { next = N.Tells (arity); top = low }
      → (bytes : List ℕ) (first : ℕ) → Turns bytes first src base w s v r
  answer_body e small v r vi ri bytes first m T = at_top bytes first m T (Ends bytes first v r m T) λ end a x k q top is st.
      if_body src kind value (λ y. Tells bytes first m T end a (y ∷ k) → Ends bytes first v r m T (tells end a) (y ∷ k)) e
      (λ d p q. subst (λ (y : Walk). Ends bytes first v y m T (tells end a) (for_body d ∷ k)) (sym ri)
      (learns m T bytes first src base w s end a d k low q arity telling (omega (arith, small, p)) top st v (vi ∙ ap (λ (i : ℕ). put_word w (frames_end + i * 2) (arity + 1)) p))) x is q

  pub answer_root : (kind ≡ 1 → ⊥) → (kind ≡ 3 → ⊥) → (kind ≡ 2 → ⊥) → (kind ≡ 4 → ⊥) → (kind ≡ 5 → ⊥) → (r : Walk) → r ≡ record { next = N.Tells (arity); top = low }
      → (bytes : List ℕ) (first : ℕ) → Turns bytes first src base w s w r
  answer_root n₁ n₃ n₂ n₄ n₅ r ri bytes first m T = at_top bytes first m T (Ends bytes first w r m T) λ end a x k q top is st.
      if_root src kind value (λ y. Tells bytes first m T end a (y ∷ k) → Ends bytes first w r m T (tells end a) (y ∷ k)) n₁ n₃ n₂ n₄ n₅
      (λ q. subst (λ (y : Walk). Ends bytes first w y m T (tells end a) (for_root ∷ k)) (sym ri)
      (roots m T bytes first src base w s end a k low q top st arity (told_arity m T bytes first src base w s end a for_root k q arity telling))) x is q
