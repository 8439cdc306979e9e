-- A round reaches every definition, one at a turn, and the rounds together give all arities: what is still to come stands in the table behind the turn's
-- place, and everything before it has been reached.
-- Assumes nothing.
use Prim.Native.Nat.{ℕ, suc, ◌+◌, ◌*◌, ◌≤◌, ◌<◌}
use mathlib.Core.Path.{◌≡◌, refl, sym, ap, subst, ◌∙◌}
use mathlib.Core.List.Memᴰ
use mathlib.Core.List.{List, [], ◌∷◌, Memᴰ}
use mathlib.Core.Logic.{◌⊎◌, inl, inr}
use mathlib.Core.Bool.{Bool, true, false, cond}
use mathlib.Core.Option.{Option, none, some}
use native.Mathlib.Omega.{arith}
use native.Mathlib.Decide.{dec_lt}
use lib.Dec.{ltb}
use lib.ListN.{length, get_or}
use borrow.Author.Tests.{lt-ltb, le-ltb}
use Rattle.words.specs.Blank.{Blank}
use Rattle.words.specs.Word.{word, put_word}
use Rattle.words.proofs.WordLaws.{length-put_word}
use Rattle.format.specs.declared.values.TacticNo.{TacticNo}
use Rattle.format.specs.Terms.{Term}
use Rattle.format.specs.Standing.{Stands}
use Rattle.format.proofs.StandsLaws.{known}
use Rattle.tables.specs.Tables.{Definition, Table, UniqueDefinitions}
use Rattle.tables.specs.Repeats.{definition_size}
use Rattle.tables.specs.Standing.{InRow, DefinitionStands, DefinitionsStand, TableStands}
use Rattle.tables.proofs.RowLaws.{row_le, first_in_row, definition_size_lem, definition_positive}
use Rattle.tables.proofs.BodyLookup.{body_member}
use Rattle.evaluation.specs.TacticArity.{arity_in, arity_after}
use Rattle.arities.specs.Layout.{frames_end, space_end}
use Rattle.arities.specs.Arities.{arity_code, ArityTable, arities}
use Rattle.arities.specs.Rounds.{decoded, known_in, Between, Updated, RoundGiven, Rounded, FillGiven, Settled, Cleared, Filled}
use Rattle.arities.proofs.RoundLaws.{has_known, body_found, between_start, all_there, fixed_all, stored_between, stored_reached, stored_here, update_here, update_other, update_none}

-- the definitions still to come; every other one has been reached, and is as it was if nothing changed
pub record Turn (bytes : List ℕ) (T : Table) (k : ℕ) (w : List ℕ) (at : ℕ) (changed : Bool) : Type 0 where
  pub rest : List Definition
  pub stand : DefinitionsStand bytes at rest (length bytes)
  pub members : (y : Definition) → Memᴰ y rest → Memᴰ y T.definitions
  pub between : Between T k w
  pub reached : (y : Definition) → Memᴰ y T.definitions
      → Memᴰ y rest ⊎ ((n : ℕ) → arity_after (suc k) T.definitions y.tactic ≡ some n → known_in w y.tactic ≡ some n)
  pub unchanged : changed ≡ false → (y : Definition) → Memᴰ y T.definitions → Memᴰ y rest ⊎ (known_in w y.tactic ≡ arity_in (known_in w) y.body)

-- what holds at every turn of a round
pub record RoundTurn (bytes : List ℕ) (first : ℕ) (w₀ w : List ℕ) (at : ℕ) (changed : Bool) : Type 0 where
  pub row : (rest : List Definition) × DefinitionsStand bytes at rest (length bytes)
  pub turn : (T : Table) → TableStands bytes first T → UniqueDefinitions T → (k : ℕ) → Between T k w₀ → Turn bytes T k w at changed
  pub same_length : length w ≡ length w₀

pub round_start : (bytes : List ℕ) (first : ℕ) (w : List ℕ) → RoundGiven bytes first w → RoundTurn bytes first w w first false
round_start bytes first w q = record {
  row = (q.table.definitions, q.table_stands.definitions_stand);
  turn = λ T st unique k b. record {
    rest = T.definitions;
    stand = st.definitions_stand;
    members = λ y m. m;
    between = b;
    reached = λ y m. inl m;
    unchanged = λ z y m. inl m;
  };
  same_length = refl;
}

-- the definition at the turn's place
pub definition_here : (bytes : List ℕ) (first : ℕ) (w₀ w : List ℕ) (at : ℕ) (changed : Bool) → RoundTurn bytes first w₀ w at changed → at < length bytes → (x : Definition) × DefinitionStands bytes at x × (at + definition_size x ≤ length bytes)
definition_here bytes first w₀ w at changed r h = first_in_row (DefinitionStands bytes) definition_size r.row.0 at (length bytes) r.row.1 h

pub here_room : (bytes : List ℕ) (at : ℕ) (x : Definition) → DefinitionStands bytes at x → at + definition_size x ≤ length bytes → (at + 8 ≤ length bytes) × (at + (3 + word bytes (at + 1)) ≤ length bytes)
here_room bytes at x d h =
    let k = known bytes (at + 5) x.body d.body_stands in
    let e = definition_size_lem bytes at x d in
    (omega (arith, k.inside, k.three), omega (arith, e, h))

-- what a turn reads and stores
module _ (bytes : List ℕ) (at len tactic arity : ℕ) (w v : List ℕ) (changed : Bool) (len_is : len ≡ word bytes (at + 1)) (tactic_is : tactic ≡ word bytes (at + 3)) (bound : tactic < 65536)
    (space : space_end ≤ length w) (found : (given : TacticNo → Option ℕ) (t : Term) → ArityTable w given → Stands bytes (at + 5) t → arity ≡ arity_code (arity_in given t)) (u : Updated w tactic arity v changed) where
  row_next : (xs : List Definition) → at < length bytes → DefinitionsStand bytes at xs (length bytes) → (rest : List Definition) × DefinitionsStand bytes (at + (3 + len)) rest (length bytes)
  unfolding InRow
  row_next [] h e = absurd (omega (arith, h, e))
  row_next (x ∷ xs) h r =
      let q : at + definition_size x ≡ at + (3 + len) = omega (arith, definition_size_lem bytes at x r.0, len_is) in
      (xs, subst (λ (j : ℕ). DefinitionsStand bytes j xs (length bytes)) q r.1)

  turn_next : (T : Table) (unique : UniqueDefinitions T) (k : ℕ) (before after : Bool) → (after ≡ false → (before ≡ false) × (changed ≡ false)) → at < length bytes → Turn bytes T k w at before → Turn bytes T k v (at + (3 + len)) after
  unfolding InRow
  turn_next T unique k before after both h t = go t.rest t.stand t.members t.reached t.unchanged
    where
      go : (xs : List Definition) → DefinitionsStand bytes at xs (length bytes) → ((y : Definition) → Memᴰ y xs → Memᴰ y T.definitions)
          → ((y : Definition) → Memᴰ y T.definitions → Memᴰ y xs ⊎ ((n : ℕ) → arity_after (suc k) T.definitions y.tactic ≡ some n → known_in w y.tactic ≡ some n))
          → (before ≡ false → (y : Definition) → Memᴰ y T.definitions → Memᴰ y xs ⊎ (known_in w y.tactic ≡ arity_in (known_in w) y.body))
          → Turn bytes T k v (at + (3 + len)) after
      go [] e m f g = absurd (omega (arith, h, e))
      go (x ∷ xs) r m f g = record {
        rest = xs;
        stand = subst (λ (j : ℕ). DefinitionsStand bytes j xs (length bytes)) place r.1;
        members = λ y i. m y (Memᴰ.tail i);
        between = stored_between T unique k w v x member here other t.between;
        reached = λ y i. reach y (f y i);
        unchanged = λ z y i. same y (changed_none z) (g (both z).0 y i);
      }
        where
          place : at + definition_size x ≡ at + (3 + len)
          place = omega (arith, definition_size_lem bytes at x r.0, len_is)

          number : tactic ≡ x.tactic.0
          number = tactic_is ∙ r.0.tactic_is

          member : Memᴰ x T.definitions
          member = m x (Memᴰ.head refl)

          bound' : x.tactic.0 < 65536
          bound' = omega (arith, number, bound)

          u' : Updated w x.tactic.0 arity v changed
          u' = subst (λ (j : ℕ). Updated w j arity v changed) number u

          arity_is : arity ≡ arity_code (arity_in (known_in w) x.body)
          arity_is = found (known_in w) x.body (has_known w) r.0.body_stands

          here : known_in v x.tactic ≡ arity_in (known_in w) x.body
          here = update_here w v x.tactic arity changed (arity_in (known_in w) x.body) bound' space u' arity_is

          other : (d : TacticNo) → (d.0 ≡ x.tactic.0 → ⊥) → known_in v d ≡ known_in w d
          other = update_other w v x.tactic arity changed (arity_in (known_in w) x.body) bound' space u' arity_is

          changed_none : after ≡ false → v ≡ w
          changed_none z = update_none w v x.tactic arity changed (arity_in (known_in w) x.body) bound' space u' arity_is (both z).1

          reach : (y : Definition) → Memᴰ y (x ∷ xs) ⊎ ((n : ℕ) → arity_after (suc k) T.definitions y.tactic ≡ some n → known_in w y.tactic ≡ some n)
              → Memᴰ y xs ⊎ ((n : ℕ) → arity_after (suc k) T.definitions y.tactic ≡ some n → known_in v y.tactic ≡ some n)
          reach y (inr p) = inr (stored_reached T unique k w v x member here other t.between y.tactic p)
          reach y (inl i) = by (Memᴰ.cases_cons i)
            where
              by : (y ≡ x) ⊎ Memᴰ y xs → Memᴰ y xs ⊎ ((n : ℕ) → arity_after (suc k) T.definitions y.tactic ≡ some n → known_in v y.tactic ≡ some n)
              by (inl e) = inr (subst (λ (z : Definition). (n : ℕ) → arity_after (suc k) T.definitions z.tactic ≡ some n → known_in v z.tactic ≡ some n) (sym e)
                  (stored_here T unique k w v x member here other t.between))
              by (inr j) = inl j

          same : (y : Definition) → v ≡ w → Memᴰ y (x ∷ xs) ⊎ (known_in w y.tactic ≡ arity_in (known_in w) y.body) → Memᴰ y xs ⊎ (known_in v y.tactic ≡ arity_in (known_in v) y.body)
          same y q (inr p) = inr (subst (λ (z : List ℕ). known_in z y.tactic ≡ arity_in (known_in z) y.body) (sym q) p)
          same y q (inl i) = by (Memᴰ.cases_cons i)
            where
              by : (y ≡ x) ⊎ Memᴰ y xs → Memᴰ y xs ⊎ (known_in v y.tactic ≡ arity_in (known_in v) y.body)
              by (inl e) = inr (subst (λ (z : Definition). known_in v z.tactic ≡ arity_in (known_in v) z.body) (sym e)
                  (here ∙ ap (λ (z : List ℕ). arity_in (known_in z) x.body) (sym q)))
              by (inr j) = inl j

  pub round_next : (first : ℕ) (w₀ : List ℕ) (before after : Bool) → (after ≡ false → (before ≡ false) × (changed ≡ false)) → at < length bytes → RoundTurn bytes first w₀ w at before
      → RoundTurn bytes first w₀ v (at + (3 + len)) after
  round_next first w₀ before after both h r = record {
    row = row_next r.row.0 h r.row.1;
    turn = λ T st unique k b. turn_next T unique k before after both h (r.turn T st unique k b);
    same_length = u.same_length ∙ r.same_length;
  }

-- no definition is left
pub round_end : (bytes : List ℕ) (first : ℕ) (w₀ w : List ℕ) (at : ℕ) (changed : Bool) → RoundTurn bytes first w₀ w at changed → length bytes ≤ at → Rounded bytes first w₀ w changed
unfolding InRow
round_end bytes first w₀ w at changed r h = record {
  same_length = r.same_length;
  further = λ T st unique k b. ends T k (r.turn T st unique k b);
  settled = λ T st unique k b z. settles T unique k z (r.turn T st unique k b);
}
  where
    none_left : (xs : List Definition) → DefinitionsStand bytes at xs (length bytes) → xs ≡ []
    none_left [] e = refl
    none_left (x ∷ xs) e = absurd (omega (arith, h, definition_positive x, row_le (DefinitionStands bytes) definition_size xs (at + definition_size x) (length bytes) e.1))

    not_left : (T : Table) (k : ℕ) (t : Turn bytes T k w at changed) (y : Definition) → Memᴰ y t.rest → ⊥
    not_left T k t y m = Memᴰ.not-nil (subst (λ (l : List Definition). Memᴰ y l) (none_left t.rest t.stand) m)

    ends : (T : Table) (k : ℕ) → Turn bytes T k w at changed → Between T (suc k) w
    ends T k t = record {
      sound = t.between.sound;
      complete = λ d n e.
          let b = body_found T k d n e in
          let y : Definition = record { tactic = d; body = b.0 } in
          by d n e y (t.reached y (body_member T d b.0 b.1));
    }
      where
        by : (d : TacticNo) (n : ℕ) → arity_after (suc k) T.definitions d ≡ some n → (y : Definition)
            → Memᴰ y t.rest ⊎ ((n : ℕ) → arity_after (suc k) T.definitions d ≡ some n → known_in w d ≡ some n) → known_in w d ≡ some n
        by d n e y (inl m) = absurd (not_left T k t y m)
        by d n e y (inr f) = f n e

    settles : (T : Table) → UniqueDefinitions T → (k : ℕ) → changed ≡ false → Turn bytes T k w at changed → ArityTable w (arities T)
    settles T unique k z t = fixed_all T unique k w t.between (λ y m. by y (t.unchanged z y m))
      where
        by : (y : Definition) → Memᴰ y t.rest ⊎ (known_in w y.tactic ≡ arity_in (known_in w) y.body) → known_in w y.tactic ≡ arity_in (known_in w) y.body
        by y (inl m) = absurd (not_left T k t y m)
        by y (inr e) = e

-- the rounds
pub record FillTurn (bytes : List ℕ) (first : ℕ) (w₀ w : List ℕ) (rounds : ℕ) : Type 0 where
  pub same_length : length w ≡ length w₀
  pub turn : (T : Table) → TableStands bytes first T → UniqueDefinitions T → Between T 0 w₀ → Between T rounds w

pub fill_start : (bytes : List ℕ) (first : ℕ) (w : List ℕ) → FillTurn bytes first w w 0
fill_start bytes first w = record { same_length = refl; turn = λ T st unique b. b }

pub round_given : (bytes : List ℕ) (first definitions : ℕ) (w₀ w : List ℕ) (rounds : ℕ) → FillGiven bytes first definitions w₀ → FillTurn bytes first w₀ w rounds → RoundGiven bytes first w
round_given bytes first definitions w₀ w rounds q t = record { small = q.small; space = omega (arith, q.space, t.same_length); table = q.table; table_stands = q.table_stands }

pub fill_next : (bytes : List ℕ) (first : ℕ) (w₀ w v : List ℕ) (rounds : ℕ) (changed : Bool) → FillTurn bytes first w₀ w rounds → Rounded bytes first w v changed → FillTurn bytes first w₀ v (rounds + 1)
fill_next bytes first w₀ w v rounds changed t r =
    let e : suc rounds ≡ rounds + 1 = omega arith in
    record {
      same_length = r.same_length ∙ t.same_length;
      turn = λ T st unique b. subst (λ (j : ℕ). Between T j v) e (r.further T st unique rounds (t.turn T st unique b));
    }

pub fill_settled : (bytes : List ℕ) (first definitions : ℕ) (w₀ w v : List ℕ) (rounds : ℕ) (changed : Bool) → changed ≡ false → FillTurn bytes first w₀ w rounds → Rounded bytes first w v changed
    → Settled bytes first definitions w₀ v
fill_settled bytes first definitions w₀ w v rounds changed z t r = record {
  same_length = r.same_length ∙ t.same_length;
  settled = λ T st unique c b. r.settled T st unique rounds (t.turn T st unique b) z;
}

pub fill_out : (bytes : List ℕ) (first definitions : ℕ) (w₀ w : List ℕ) (rounds : ℕ) → rounds ≡ definitions → FillTurn bytes first w₀ w rounds → Settled bytes first definitions w₀ w
fill_out bytes first definitions w₀ w rounds h t = record {
  same_length = t.same_length;
  settled = λ T st unique c b. all_there T rounds w (omega (arith, h, c)) (t.turn T st unique b);
}

pub fill_all : (bytes : List ℕ) (first definitions : ℕ) (w₀ w v : List ℕ) → Cleared w₀ w → Settled bytes first definitions w v → Filled bytes first definitions w₀ v
fill_all bytes first definitions w₀ w v c s = record {
  same_length = s.same_length ∙ c.same_length;
  filled = λ T st unique k. s.settled T st unique k (between_start T w c.none_known);
}

-- cleared work space knows no arity
zero_word : (a b : ℕ) → a ≡ 0 → b ≡ 0 → decoded (a * 256 + b) ≡ none
zero_word a b x y = let z : a * 256 + b ≡ 0 = omega (arith, x, y) in ap decoded z

zero_known : (v : List ℕ) → ((i : ℕ) → i < 131072 → get_or v (frames_end + i) 0 ≡ 0) → (d : TacticNo) → known_in v d ≡ none
unfolding known_in word
zero_known v z d = go (dec_lt d.0 65536)
  where
    go : Dec (d.0 < 65536) → cond (ltb d.0 65536) (decoded (get_or v (frames_end + d.0 * 2) 0 * 256 + get_or v (frames_end + d.0 * 2 + 1) 0)) none ≡ none
    go (no b) = ap (λ (x : Bool). cond x (decoded (get_or v (frames_end + d.0 * 2) 0 * 256 + get_or v (frames_end + d.0 * 2 + 1) 0)) none) (le-ltb d.0 65536 (omega (arith, b)))
    go (yes b) =
        let p : frames_end + (d.0 * 2 + 1) ≡ frames_end + d.0 * 2 + 1 = omega arith in
        ap (λ (x : Bool). cond x (decoded (get_or v (frames_end + d.0 * 2) 0 * 256 + get_or v (frames_end + d.0 * 2 + 1) 0)) none) (lt-ltb d.0 65536 b)
        ∙ zero_word (get_or v (frames_end + d.0 * 2) 0) (get_or v (frames_end + d.0 * 2 + 1) 0) (z (d.0 * 2) (omega (arith, b))) (ap (λ (j : ℕ). get_or v j 0) (sym p) ∙ z (d.0 * 2 + 1) (omega (arith, b)))

pub cleared : (w v : List ℕ) → length v ≡ length w → Blank w v frames_end 131072 → Cleared w v
cleared w v l b = record { same_length = l; none_known = zero_known v (λ i h. b.zeros (frames_end + i) (omega arith) (omega (arith, h))) }

-- an update
pub not_updated : (w : List ℕ) (tactic arity : ℕ) → word w (frames_end + tactic * 2) ≡ arity → Updated w tactic arity w false
not_updated w tactic arity e = record { same_length = refl; unchanged = λ z. (refl, e); stored = λ n. cc }

pub updated : (w : List ℕ) (tactic arity : ℕ) (v : List ℕ) → v ≡ put_word w (frames_end + tactic * 2) arity → Updated w tactic arity v true
updated w tactic arity v e = record { same_length = ap length e ∙ length-put_word w (frames_end + tactic * 2) arity; unchanged = λ z. cc; stored = λ n. e }
