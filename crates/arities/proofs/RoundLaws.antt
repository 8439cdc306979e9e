-- The arities found by rounds are those of hitac: no arity that is stored is wrong, a round gives what one more unfolding gives, and arities that a round
-- leaves as they are, are a fixed point of the definitions and so all that any number of unfoldings gives.
-- Assumes nothing.
use Prim.Native.Nat.{ℕ, zero, suc, ◌+◌, ◌*◌, ◌≤◌, ◌<◌}
use mathlib.Core.Path.{◌≡◌, refl, sym, ap, subst, ◌∙◌}
use mathlib.Core.Bool.{Bool, true, false, cond}
use mathlib.Core.List.{List, Memᴰ}
use mathlib.Core.Logic.{◌⊎◌, inl, inr}
use mathlib.Core.Option.{Option, none, some, none-ne-some}
use native.Mathlib.Omega.{arith}
use native.Mathlib.Decide.{ℕ_discrete, dec_lt}
use lib.Dec.{ltb}
use lib.ListN.{length}
use borrow.Author.Tests.{lt-ltb}
use Rattle.words.specs.Word.{word}
use Rattle.words.proofs.WordLaws.{word_same, word_other}
use Rattle.format.specs.declared.values.TacticNo.{TacticNo}
use Rattle.format.specs.Values.{tactic_no}
use Rattle.format.specs.Terms.{Term}
use Rattle.tables.specs.Tables.{Definition, Table, UniqueDefinitions}
use Rattle.tables.specs.Lookup.{find_body_in, find_body}
use Rattle.tables.proofs.BodyLookup.{body_member, found↔definition}
use Rattle.evaluation.specs.TacticArity.{arity_in, body_arity, arity_after}
use Rattle.evaluation.proofs.UnfoldingLaws.{Within, arity_in-within, same_arity, after_suc, has_body, after_update}
use Rattle.arities.specs.Layout.{frames_end, space_end}
use Rattle.arities.specs.Arities.{arity_code, ArityTable, arities}
use Rattle.arities.specs.Rounds.{decoded, known_in, Between, Updated}

-- numbers and arities
code_decoded : (n : ℕ) → arity_code (decoded n) ≡ n
code_decoded zero = refl
code_decoded (suc n) = omega arith

decoded_code : (n : ℕ) (o : Option ℕ) → n ≡ arity_code o → decoded n ≡ o
decoded_code zero none e = refl
decoded_code zero (some m) e = absurd (omega (arith, e))
decoded_code (suc n) none e = absurd (omega (arith, e))
decoded_code (suc n) (some m) e = let q : n ≡ m = omega (arith, e) in ap some q

known_at : (w : List ℕ) (d : TacticNo) → d.0 < 65536 → known_in w d ≡ decoded (word w (frames_end + d.0 * 2))
unfolding known_in
known_at w d h = ap (λ (b : Bool). cond b (decoded (word w (frames_end + d.0 * 2))) none) (lt-ltb d.0 65536 h)

known_word : (w v : List ℕ) (d : TacticNo) → word v (frames_end + d.0 * 2) ≡ word w (frames_end + d.0 * 2) → known_in v d ≡ known_in w d
unfolding known_in
known_word w v d e = ap (λ (x : ℕ). cond (ltb d.0 65536) (decoded x) none) e

-- the work space has the arities that it has
pub has_known : (w : List ℕ) → ArityTable w (known_in w)
has_known w d h = sym (ap arity_code (known_at w (tactic_no d) h) ∙ code_decoded (word w (frames_end + d * 2)))

module _ (T : Table) where
  -- one unfolding more of a tactic that the table defines, and of one that it does not
  unfolds : (k : ℕ) (d : TacticNo) (t : Term) → find_body T d ≡ some t → arity_after (suc k) T.definitions d ≡ arity_in (arity_after k T.definitions) t
  unfolding arity_after find_body
  unfolds k d t e = ap (body_arity (arity_after k T.definitions)) e

  -- an arity that an unfolding gives is that of a body
  pub body_found : (k : ℕ) (d : TacticNo) (n : ℕ) → arity_after (suc k) T.definitions d ≡ some n → (t : Term) × (find_body T d ≡ some t)
  unfolding find_body
  body_found = has_body T.definitions

  -- round 0
  pub between_start : (w : List ℕ) → ((d : TacticNo) → known_in w d ≡ none) → Between T 0 w
  unfolding arity_after
  between_start w h = record {
    sound = λ d n e. absurd (none-ne-some n (sym (h d) ∙ e));
    complete = λ d n e. absurd (none-ne-some n e);
  }

  -- all there
  pub all_there : (k : ℕ) (w : List ℕ) → k ≡ length T.definitions → Between T k w → ArityTable w (arities T)
  all_there k w e b d h =
      let c : (n : ℕ) → arities T (tactic_no d) ≡ some n → known_in w (tactic_no d) ≡ some n = λ n a. b.complete (tactic_no d) n (subst (λ (j : ℕ). arity_after j T.definitions (tactic_no d) ≡ some n) (sym e) a) in
      has_known w d h ∙ ap arity_code (same_arity (known_in w (tactic_no d)) (arities T (tactic_no d)) (b.sound (tactic_no d)) c)

  module _ (unique : UniqueDefinitions T) where
    body_is : (x : Definition) → Memᴰ x T.definitions → find_body T x.tactic ≡ some x.body
    body_is x m = (found↔definition T x.tactic unique x.body).1 m

    -- a fixed point of the definitions in which nothing is wrong
    pub fixed_all : (k : ℕ) (w : List ℕ) → Between T k w → ((x : Definition) → Memᴰ x T.definitions → known_in w x.tactic ≡ arity_in (known_in w) x.body) → ArityTable w (arities T)
    unfolding arity_after
    fixed_all k w b fix = all_there (length T.definitions) w refl (record { sound = b.sound; complete = go (length T.definitions) })
      where
        go : (j : ℕ) → Within (arity_after j T.definitions) (known_in w)
        go zero d n e = absurd (none-ne-some n e)
        go (suc j) d n e =
            let u = body_found j d n e in
            let m : Memᴰ (record { tactic = d; body = u.0 }) T.definitions = body_member T d u.0 u.1 in
            fix (record { tactic = d; body = u.0 }) m ∙ arity_in-within (go j) u.0 n (sym (unfolds j d u.0 u.1) ∙ e)

    -- one definition's arity stored
    module _ (k : ℕ) (w v : List ℕ) (x : Definition) (member : Memᴰ x T.definitions) (here : known_in v x.tactic ≡ arity_in (known_in w) x.body)
        (other : (d : TacticNo) → (d.0 ≡ x.tactic.0 → ⊥) → known_in v d ≡ known_in w d) (b : Between T k w) where
      reached_here : (n : ℕ) → arity_after (suc k) T.definitions x.tactic ≡ some n → known_in v x.tactic ≡ some n
      reached_here n e = here ∙ arity_in-within b.complete x.body n (sym (unfolds k x.tactic x.body (body_is x member)) ∙ e)

      same_number : (d : TacticNo) → d.0 ≡ x.tactic.0 → d ≡ x.tactic
      same_number d e = λ i. record { 0 = e i }

      -- of every tactic, by whether it is the one
      by_number : (P : TacticNo → Type 0) → P x.tactic → (d : TacticNo) → ((d.0 ≡ x.tactic.0 → ⊥) → P d) → P d
      by_number P p d f = go (ℕ_discrete d.0 x.tactic.0)
        where
          go : Dec (d.0 ≡ x.tactic.0) → P d
          go (yes e) = subst P (sym (same_number d e)) p
          go (no e) = f e

      pub stored_between : Between T k v
      unfolding find_body
      stored_between = record {
        sound = λ d. by_number (λ d. (n : ℕ) → known_in v d ≡ some n → arities T d ≡ some n)
            (λ n e. after_update T.definitions (known_in w) b.sound x.tactic n (by_body n (sym here ∙ e))) d (λ ne n e. b.sound d n (sym (other d ne) ∙ e));
        complete = λ d. by_number (λ d. (n : ℕ) → arity_after k T.definitions d ≡ some n → known_in v d ≡ some n)
            (λ n e. reached_here n (after_suc T.definitions k x.tactic n e)) d (λ ne n e. other d ne ∙ b.complete d n e);
      }
        where
          by_body : (n : ℕ) → arity_in (known_in w) x.body ≡ some n → body_arity (known_in w) (find_body_in T.definitions x.tactic) ≡ some n
          by_body n e = ap (body_arity (known_in w)) (body_is x member) ∙ e

      -- what one more unfolding gives for a tactic is there already, or is the one stored
      pub stored_reached : (d : TacticNo) → ((n : ℕ) → arity_after (suc k) T.definitions d ≡ some n → known_in w d ≡ some n)
          → (n : ℕ) → arity_after (suc k) T.definitions d ≡ some n → known_in v d ≡ some n
      stored_reached d = by_number (λ d. ((n : ℕ) → arity_after (suc k) T.definitions d ≡ some n → known_in w d ≡ some n)
          → (n : ℕ) → arity_after (suc k) T.definitions d ≡ some n → known_in v d ≡ some n) (λ f. reached_here) d (λ ne f n e. other d ne ∙ f n e)

      pub stored_here : (n : ℕ) → arity_after (suc k) T.definitions x.tactic ≡ some n → known_in v x.tactic ≡ some n
      stored_here = reached_here

-- what an update stored
module _ (w v : List ℕ) (d : TacticNo) (arity : ℕ) (changed : Bool) (o : Option ℕ) (bound : d.0 < 65536) (space : space_end ≤ length w) (u : Updated w d.0 arity v changed) (e : arity ≡ arity_code o) where
  word_there : word v (frames_end + d.0 * 2) ≡ arity
  word_there = go changed refl
    where
      go : (b : Bool) → changed ≡ b → word v (frames_end + d.0 * 2) ≡ arity
      go false z = let r = u.unchanged z in ap (λ (x : List ℕ). word x (frames_end + d.0 * 2)) r.0 ∙ r.1
      go true z = ap (λ (x : List ℕ). word x (frames_end + d.0 * 2)) (u.stored z) ∙ word_same w (frames_end + d.0 * 2) arity (omega (arith, space, bound))

  pub update_here : known_in v d ≡ o
  update_here = known_at v d bound ∙ ap decoded word_there ∙ decoded_code arity o e

  pub update_other : (c : TacticNo) → (c.0 ≡ d.0 → ⊥) → known_in v c ≡ known_in w c
  update_other c ne = go changed refl
    where
      apart : (frames_end + c.0 * 2 + 1 < frames_end + d.0 * 2) ⊎ (frames_end + d.0 * 2 + 1 < frames_end + c.0 * 2)
      apart = sides (dec_lt c.0 d.0)
        where
          sides : Dec (c.0 < d.0) → (frames_end + c.0 * 2 + 1 < frames_end + d.0 * 2) ⊎ (frames_end + d.0 * 2 + 1 < frames_end + c.0 * 2)
          sides (yes l) = inl (omega arith)
          sides (no l) = inr (omega (arith, ne))

      go : (b : Bool) → changed ≡ b → known_in v c ≡ known_in w c
      go false z = ap (λ (x : List ℕ). known_in x c) (u.unchanged z).0
      go true z = ap (λ (x : List ℕ). known_in x c) (u.stored z) ∙ known_word w _ c (word_other w (frames_end + d.0 * 2) arity (frames_end + c.0 * 2) apart)

  -- where nothing changed
  pub update_none : changed ≡ false → v ≡ w
  update_none z = (u.unchanged z).0
