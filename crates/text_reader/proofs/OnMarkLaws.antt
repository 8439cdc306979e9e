-- One mark more of the reading from the right.
-- Assumes nothing.
use mathlib.Core.Path.{◌≡◌, refl, sym, ap, ◌∙◌, subst}
use mathlib.Core.Bool.{Bool, true, false}
use mathlib.Core.Logic.{◌⊎◌, inl, inr}
use mathlib.Core.List.{List, ◌∷◌, ◌++◌}
use Prim.Native.Nat.{ℕ, ◌+◌, ◌*◌, ◌-◌, ◌≤◌}
use native.Mathlib.Omega.{arith}
use native.Mathlib.Numerals.{add-one}
use lib.ListN.{length, get_or, drop, length-drop}
use lib.Seq.{drop-cons}
use Rattle.words.specs.Word.{word}
use Rattle.format.specs.Terms.{Term}
use Rattle.format.specs.Encoding.{word_bytes, term_bytes}
use Rattle.notation.specs.Marks.{Sign, semicolon, bar, star, Leaf, rule_leaf, id_leaf, empty_leaf, goal_leaf, tactic_leaf, Mark, leaf, label_mark, sign, opening, closing, leaf_term, label_term}
use Rattle.notation.specs.Written.{rank}
use Rattle.notation.specs.Passing.{mark_size, sizes}
use Rattle.notation.specs.FromRight.{Frame, waiting, bracket, State, due, had, stuck, reduced_term, reduced_frames, unbracket, on_mark, state_of}
use Rattle.text_reader.specs.MarkList.{MarkStands}
use Rattle.notation.specs.Signs.{is_pair}
use Rattle.text_reader.specs.Held.{frames_end, sign_tag, rest_bytes, waits, Stacked, ShownDue, ShownHad, Shown, NotStuck, frames_of, MarkReady}
use Rattle.text_reader.proofs.HeldLaws.{needs, mark_size_lem, state_size, few_frames}
use Rattle.text_reader.proofs.StoreLaws.{stacked_end, had_lengths}

due_lengths : (fs : List Frame) (w o : List ℕ) (front low : ℕ) → ShownDue fs w o front low → length o ≡ front + length (rest_bytes fs)
due_lengths fs w o front low x = let within = x.within in let e : length o - front ≡ length (rest_bytes fs) = sym (length-drop front o) ∙ ap length x.bytes in omega arith

shown_room : (σ : State) (w o : List ℕ) (front stop low : ℕ) → Shown σ w o front stop low → needs σ + front ≡ length o + 3 * waits (frames_of σ)
unfolding needs
shown_room (due fs) w o front stop low x = omega (arith, due_lengths fs w o front low x)
shown_room (had t fs) w o front stop low x = omega (arith, (had_lengths t fs w o front stop low x).0)
shown_room stuck w o front stop low x = absurd x

shown_height : (σ : State) (w o : List ℕ) (front stop low : ℕ) → Shown σ w o front stop low → low + 3 * length (frames_of σ) ≡ frames_end
shown_height (due fs) w o front stop low x = stacked_end w (length o) low fs x.stacked
shown_height (had t fs) w o front stop low x = stacked_end w (length o) low fs x.stacked
shown_height stuck w o front stop low x = absurd x

shown_within : (σ : State) (w o : List ℕ) (front stop low : ℕ) → Shown σ w o front stop low → front ≤ length o
shown_within (due fs) w o front stop low x = x.within
shown_within (had t fs) w o front stop low x = x.within
shown_within stuck w o front stop low x = absurd x

module _ (ms : List Mark) (at : ℕ) (work out : List ℕ) (front stop low : ℕ) (R : MarkReady ms at work out front stop low) where
  -- the mark, and the state of those behind it
  abbrev pub mark : Mark
  mark = get_or ms at closing

  abbrev pub state : State
  state = state_of (drop (at + 1) ms)

  pub state_is : state_of (drop at ms) ≡ on_mark mark state
  unfolding state_of
  state_is = let h = R.inside in let here : drop at ms ≡ mark ∷ drop (at + 1) ms = rw (add-one, drop-cons ms at closing) in ap state_of here

  pub unstuck_mark : NotStuck (on_mark mark state)
  unstuck_mark = subst NotStuck state_is R.unstuck

  -- there is room for one frame more, above the marks that are still to be read
  pub frames_above : 3 * at + 3 ≤ low
  frames_above =
      let i = R.inside in
      let few = R.few in
      let l : length (drop (at + 1) ms) ≡ length ms - (at + 1) = length-drop (at + 1) ms in
      omega (arith, shown_height state work out front stop low R.shown, few_frames (drop (at + 1) ms))

  pub low_below : low ≤ frames_end
  low_below = omega (arith, shown_height state work out front stop low R.shown)

  pub in_front : front ≤ length out
  in_front = shown_within state work out front stop low R.shown

  pub room_mark : 3 * waits (frames_of state) + mark_size mark ≤ front
  room_mark =
      let r = R.room in
      let a : needs (on_mark mark state) ≡ sizes (drop at ms) = ap needs (sym state_is) ∙ state_size (drop at ms) R.unstuck in
      omega (arith, mark_size_lem mark state unstuck_mark, shown_room state work out front stop low R.shown)

  pub after : (m : Mark) → mark ≡ m → (w o : List ℕ) (f s l : ℕ) → Shown (on_mark m state) w o f s l → Shown (state_of (drop at ms)) w o f s l
  after m e w o f s l x = subst (λ (σ : State). Shown σ w o f s l) (sym (state_is ∙ ap (λ (n : Mark). on_mark n state) e)) x

  pub unstuck_as : (m : Mark) → mark ≡ m → NotStuck (on_mark m state)
  unstuck_as m e = subst (λ (n : Mark). NotStuck (on_mark n state)) e unstuck_mark

  pub room_as : (m : Mark) → mark ≡ m → 3 * waits (frames_of state) + mark_size m ≤ front
  room_as m e = subst (λ (n : Mark). 3 * waits (frames_of state) + mark_size n ≤ front) e room_mark

-- a leaf: an operand was due
pub leaf-done : (v : Leaf) (σ : State) (w o o' : List ℕ) (front stop low front' stop' low' : ℕ) (l : List ℕ) → NotStuck (on_mark (leaf v) σ) → Shown σ w o front stop low → front' ≤ front → length o' ≡ length o → term_bytes (leaf_term v) ≡ l → drop front' o' ≡ l ++ drop front o → stop' ≡ front → low' ≡ low → Shown (on_mark (leaf v) σ) w o' front' stop' low'
unfolding on_mark
leaf-done v (due fs) w o o' front stop low front' stop' low' l n x h e lb b s t =
    let within = x.within in
    record { bytes = b ∙ ap (λ (y : List ℕ). y ++ drop front o) (sym lb) ∙ ap (λ (l : List ℕ). term_bytes (leaf_term v) ++ l) x.bytes; within = omega arith; ends = omega (arith, due_lengths fs w o front low x); stacked = subst (λ (i : ℕ). Stacked w i low' fs) (sym e) (subst (λ (j : ℕ). Stacked w (length o) j fs) (sym t) x.stacked) }
leaf-done v (had t fs) w o o' front stop low front' stop' low' l n x h e lb b s t' = absurd n
leaf-done v stuck w o o' front stop low front' stop' low' l n x h e lb b s t = absurd n

-- what a term was read for
pub record WasHad (σ : State) (w o : List ℕ) (front stop low : ℕ) : Type 0 where
  pub term : Term
  pub frames : List Frame
  pub is : σ ≡ had term frames
  pub shown : ShownHad term frames w o front stop low

pub had_label : (n : ℕ) (σ : State) (w o : List ℕ) (front stop low : ℕ) → NotStuck (on_mark (label_mark n) σ) → Shown σ w o front stop low → WasHad σ w o front stop low
unfolding on_mark
had_label n (due fs) w o front stop low u x = absurd u
had_label n (had t fs) w o front stop low u x = record { term = t; frames = fs; is = refl; shown = x }
had_label n stuck w o front stop low u x = absurd u

pub had_sign : (s : Sign) (σ : State) (w o : List ℕ) (front stop low : ℕ) → NotStuck (on_mark (sign s) σ) → Shown σ w o front stop low → WasHad σ w o front stop low
unfolding on_mark
had_sign n (due fs) w o front stop low u x = absurd u
had_sign n (had t fs) w o front stop low u x = record { term = t; frames = fs; is = refl; shown = x }
had_sign n stuck w o front stop low u x = absurd u

pub had_opening : (σ : State) (w o : List ℕ) (front stop low : ℕ) → NotStuck (on_mark opening σ) → Shown σ w o front stop low → WasHad σ w o front stop low
unfolding on_mark
had_opening (due fs) w o front stop low u x = absurd u
had_opening (had t fs) w o front stop low u x = record { term = t; frames = fs; is = refl; shown = x }
had_opening stuck w o front stop low u x = absurd u

module _ (σ : State) (w o : List ℕ) (front stop low : ℕ) (x : WasHad σ w o front stop low) where
  pub waits_had : waits (frames_of σ) ≡ waits x.frames
  waits_had = ap (λ (τ : State). waits (frames_of τ)) x.is

  pub label_done : (n v : ℕ) (o' : List ℕ) (front' stop' low' : ℕ) → v ≡ n → ShownHad (label_term v (reduced_term 0 x.term x.frames)) (reduced_frames 0 x.frames) w o' front' stop' low' → Shown (on_mark (label_mark n) σ) w o' front' stop' low'
  unfolding on_mark
  label_done n v o' front' stop' low' e y = subst (λ (τ : State). Shown (on_mark (label_mark n) τ) w o' front' stop' low') (sym x.is) (subst (λ (k : ℕ). ShownHad (label_term k (reduced_term 0 x.term x.frames)) (reduced_frames 0 x.frames) w o' front' stop' low') e y)

  pub sign_done : (s : Sign) (w' o' : List ℕ) (front' stop' low' : ℕ) → ShownDue (waiting s (reduced_term (rank s) x.term x.frames) ∷ reduced_frames (rank s) x.frames) w' o' front' low' → Shown (on_mark (sign s) σ) w' o' front' stop' low'
  unfolding on_mark
  sign_done s w' o' front' stop' low' y = subst (λ (τ : State). Shown (on_mark (sign s) τ) w' o' front' stop' low') (sym x.is) y

  pub opening_unstuck : NotStuck (on_mark opening σ) → NotStuck (unbracket (reduced_term 0 x.term x.frames) (reduced_frames 0 x.frames))
  unfolding on_mark
  opening_unstuck u = subst (λ (τ : State). NotStuck (on_mark opening τ)) x.is u

  pub opening_done : (o' : List ℕ) (front' stop' low' : ℕ) → Shown (unbracket (reduced_term 0 x.term x.frames) (reduced_frames 0 x.frames)) w o' front' stop' low' → Shown (on_mark opening σ) w o' front' stop' low'
  unfolding on_mark
  opening_done o' front' stop' low' y = subst (λ (τ : State). Shown (on_mark opening τ) w o' front' stop' low') (sym x.is) y

pub closing-done : (σ : State) (w w' o : List ℕ) (front stop low front' stop' low' : ℕ) → NotStuck (on_mark closing σ) → Shown σ w o front stop low → ((fs : List Frame) (out : List ℕ) → ShownDue fs w out front low → ShownDue (bracket ∷ fs) w' out front' low') → Shown (on_mark closing σ) w' o front' stop' low'
unfolding on_mark
closing-done (due fs) w w' o front stop low front' stop' low' u x f = f fs o x
closing-done (had t fs) w w' o front stop low front' stop' low' u x f = absurd u
closing-done stuck w w' o front stop low front' stop' low' u x f = absurd u

-- the mark that stands at a place, by its first byte
module _ (w : List ℕ) (at k : ℕ) (first : k ≡ get_or w at 0) where
  pub is_closing : (m : Mark) → MarkStands w at m → k ≡ 0 → m ≡ closing
  unfolding MarkStands
  is_closing (leaf (rule_leaf n)) h z = absurd (omega (arith, h.0))
  is_closing (leaf id_leaf) h z = absurd (omega arith)
  is_closing (leaf empty_leaf) h z = absurd (omega arith)
  is_closing (leaf (goal_leaf n)) h z = absurd (omega (arith, h.0))
  is_closing (leaf (tactic_leaf n)) h z = absurd (omega (arith, h.0))
  is_closing (label_mark n) h z = absurd (omega (arith, h.0))
  is_closing (sign semicolon) h z = absurd (omega arith)
  is_closing (sign bar) h z = absurd (omega arith)
  is_closing (sign star) h z = absurd (omega arith)
  is_closing opening h z = absurd (omega arith)
  is_closing closing h z = refl

  pub is_opening : (m : Mark) → MarkStands w at m → k ≡ 1 → m ≡ opening
  unfolding MarkStands
  is_opening (leaf (rule_leaf n)) h z = absurd (omega (arith, h.0))
  is_opening (leaf id_leaf) h z = absurd (omega arith)
  is_opening (leaf empty_leaf) h z = absurd (omega arith)
  is_opening (leaf (goal_leaf n)) h z = absurd (omega (arith, h.0))
  is_opening (leaf (tactic_leaf n)) h z = absurd (omega (arith, h.0))
  is_opening (label_mark n) h z = absurd (omega (arith, h.0))
  is_opening (sign semicolon) h z = absurd (omega arith)
  is_opening (sign bar) h z = absurd (omega arith)
  is_opening (sign star) h z = absurd (omega arith)
  is_opening opening h z = refl
  is_opening closing h z = absurd (omega arith)

  pub is_label : (m : Mark) (v : ℕ) → MarkStands w at m → k ≡ 18 → v ≡ word w (at + 1) → m ≡ label_mark v
  unfolding MarkStands
  is_label (leaf (rule_leaf n)) v h z e = absurd (omega (arith, h.0))
  is_label (leaf id_leaf) v h z e = absurd (omega arith)
  is_label (leaf empty_leaf) v h z e = absurd (omega arith)
  is_label (leaf (goal_leaf n)) v h z e = absurd (omega (arith, h.0))
  is_label (leaf (tactic_leaf n)) v h z e = absurd (omega (arith, h.0))
  is_label (label_mark n) v h z e = ap label_mark (sym (e ∙ h.1))
  is_label (sign semicolon) v h z e = absurd (omega arith)
  is_label (sign bar) v h z e = absurd (omega arith)
  is_label (sign star) v h z e = absurd (omega arith)
  is_label opening v h z e = absurd (omega arith)
  is_label closing v h z e = absurd (omega arith)

  -- a leaf without a value
  pub record Plain (m : Mark) : Type 0 where
    pub one : Leaf
    pub is : m ≡ leaf one
    pub bytes : term_bytes (leaf_term one) ≡ k ∷ word_bytes 0
    pub size_is : mark_size (leaf one) ≡ 3

  not_plain : (n : ℕ) → k ≡ n → (k ≡ 17) ⊎ (k ≡ 21) → (n ≡ 17 → ⊥) → (n ≡ 21 → ⊥) → ⊥
  not_plain n e (inl p) a b = a (sym e ∙ p)
  not_plain n e (inr p) a b = b (sym e ∙ p)

  pub is_plain : (m : Mark) → MarkStands w at m → (k ≡ 17) ⊎ (k ≡ 21) → Plain m
  unfolding MarkStands term_bytes mark_size
  is_plain (leaf (rule_leaf n)) h z = absurd (not_plain 16 (first ∙ h.0) z (λ e. omega arith) (λ e. omega arith))
  is_plain (leaf id_leaf) h z = record { one = id_leaf; is = refl; bytes = ap (λ (i : ℕ). i ∷ word_bytes 0) (sym (first ∙ h)); size_is = refl }
  is_plain (leaf empty_leaf) h z = record { one = empty_leaf; is = refl; bytes = ap (λ (i : ℕ). i ∷ word_bytes 0) (sym (first ∙ h)); size_is = refl }
  is_plain (leaf (goal_leaf n)) h z = absurd (not_plain 23 (first ∙ h.0) z (λ e. omega arith) (λ e. omega arith))
  is_plain (leaf (tactic_leaf n)) h z = absurd (not_plain 24 (first ∙ h.0) z (λ e. omega arith) (λ e. omega arith))
  is_plain (label_mark n) h z = absurd (not_plain 18 (first ∙ h.0) z (λ e. omega arith) (λ e. omega arith))
  is_plain (sign semicolon) h z = absurd (not_plain 19 (first ∙ h) z (λ e. omega arith) (λ e. omega arith))
  is_plain (sign bar) h z = absurd (not_plain 22 (first ∙ h) z (λ e. omega arith) (λ e. omega arith))
  is_plain (sign star) h z = absurd (not_plain 20 (first ∙ h) z (λ e. omega arith) (λ e. omega arith))
  is_plain opening h z = absurd (not_plain 1 (first ∙ h) z (λ e. omega arith) (λ e. omega arith))
  is_plain closing h z = absurd (not_plain 0 (first ∙ h) z (λ e. omega arith) (λ e. omega arith))

  -- a sign
  pub record Paired (m : Mark) : Type 0 where
    pub one : Sign
    pub is : m ≡ sign one
    pub tag : k ≡ sign_tag one

  not_paired : (n : ℕ) → k ≡ n → is_pair n ≡ false → is_pair k ≡ true → ⊥
  not_paired n e f t = let b : ◌≡◌ {A = Bool} false true = sym f ∙ ap is_pair (sym e) ∙ t in let z : ◌≡◌ {A = ℕ} 0 1 = cc in omega arith

  pub is_paired : (m : Mark) → MarkStands w at m → is_pair k ≡ true → Paired m
  unfolding MarkStands is_pair
  is_paired (leaf (rule_leaf n)) h z = absurd (not_paired 16 (first ∙ h.0) refl z)
  is_paired (leaf id_leaf) h z = absurd (not_paired 17 (first ∙ h) refl z)
  is_paired (leaf empty_leaf) h z = absurd (not_paired 21 (first ∙ h) refl z)
  is_paired (leaf (goal_leaf n)) h z = absurd (not_paired 23 (first ∙ h.0) refl z)
  is_paired (leaf (tactic_leaf n)) h z = absurd (not_paired 24 (first ∙ h.0) refl z)
  is_paired (label_mark n) h z = absurd (not_paired 18 (first ∙ h.0) refl z)
  is_paired (sign semicolon) h z = record { one = semicolon; is = refl; tag = first ∙ h }
  is_paired (sign bar) h z = record { one = bar; is = refl; tag = first ∙ h }
  is_paired (sign star) h z = record { one = star; is = refl; tag = first ∙ h }
  is_paired opening h z = absurd (not_paired 1 (first ∙ h) refl z)
  is_paired closing h z = absurd (not_paired 0 (first ∙ h) refl z)

  -- a leaf with a value: no other mark is left
  pub record Valued (m : Mark) (v : ℕ) : Type 0 where
    pub one : Leaf
    pub is : m ≡ leaf one
    pub bytes : term_bytes (leaf_term one) ≡ k ∷ (word_bytes 2 ++ word_bytes v)
    pub size_is : mark_size (leaf one) ≡ 5

  pair_yes : (n : ℕ) → k ≡ n → is_pair n ≡ true → is_pair k ≡ false → ⊥
  pair_yes n e f t = let b : ◌≡◌ {A = Bool} false true = sym t ∙ ap is_pair e ∙ f in let z : ◌≡◌ {A = ℕ} 0 1 = cc in omega arith

  valued : (tag v n : ℕ) → tag ≡ k → n ≡ v → tag ∷ (word_bytes 2 ++ word_bytes n) ≡ k ∷ (word_bytes 2 ++ word_bytes v)
  valued tag v n e f = ap (λ (i : ℕ). i ∷ (word_bytes 2 ++ word_bytes n)) e ∙ ap (λ (i : ℕ). k ∷ (word_bytes 2 ++ word_bytes i)) f

  pub is_valued : (m : Mark) (v : ℕ) → MarkStands w at m → (k ≡ 0 → ⊥) → (k ≡ 1 → ⊥) → (k ≡ 17 → ⊥) → (k ≡ 21 → ⊥) → is_pair k ≡ false → (k ≡ 18 → ⊥) → v ≡ word w (at + 1) → Valued m v
  unfolding MarkStands is_pair term_bytes mark_size
  is_valued (leaf (rule_leaf n)) v h a b p q d f e = record { one = rule_leaf n; is = refl; bytes = valued 16 v n (sym (first ∙ h.0)) (sym (e ∙ h.1)); size_is = refl }
  is_valued (leaf id_leaf) v h a b p q d f e = absurd (p (first ∙ h))
  is_valued (leaf empty_leaf) v h a b p q d f e = absurd (q (first ∙ h))
  is_valued (leaf (goal_leaf n)) v h a b p q d f e = record { one = goal_leaf n; is = refl; bytes = valued 23 v n (sym (first ∙ h.0)) (sym (e ∙ h.1)); size_is = refl }
  is_valued (leaf (tactic_leaf n)) v h a b p q d f e = record { one = tactic_leaf n; is = refl; bytes = valued 24 v n (sym (first ∙ h.0)) (sym (e ∙ h.1)); size_is = refl }
  is_valued (label_mark n) v h a b p q d f e = absurd (f (first ∙ h.0))
  is_valued (sign semicolon) v h a b p q d f e = absurd (pair_yes 19 (first ∙ h) refl d)
  is_valued (sign bar) v h a b p q d f e = absurd (pair_yes 22 (first ∙ h) refl d)
  is_valued (sign star) v h a b p q d f e = absurd (pair_yes 20 (first ∙ h) refl d)
  is_valued opening v h a b p q d f e = absurd (b (first ∙ h))
  is_valued closing v h a b p q d f e = absurd (a (first ∙ h))
