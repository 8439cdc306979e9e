-- The text of a term that stands in a file, by the tag of its field.
-- Assumes nothing.
use mathlib.Core.Path.{◌≡◌, refl, sym, ap, ◌∙◌}
use mathlib.Core.Bool.{Bool, true, false, cond}
use mathlib.Core.List.{List, [], ◌∷◌, ◌++◌, append_assoc, append-nil}
use Prim.Native.Nat.{ℕ, ◌+◌, ◌≤◌}
use native.Mathlib.Omega.{arith}
use lib.Dec.{ltb, eqb}
use borrow.Author.Tests.{le-ltb, eqb-true}
use Rattle.words.specs.Word.{word}
use Rattle.format.specs.Terms.{Term, atomic, id, label, sequence, tensor, empty, alternation, assert, defined, size, fields}
use Rattle.format.specs.Standing.{Stands}
use Rattle.format.proofs.StandsLaws.{tag_of}
use Rattle.notation.specs.Marks.{Sign, semicolon, bar, star, Mark, sign, opening, closing, label_mark, sign_byte}
use Rattle.notation.specs.Written.{rank, chain, bracketed_if, marks_of, decimal, mark_bytes, text_of}
use Rattle.notation.specs.Signs.{is_pair, rank_tag}
use Rattle.text_writer.specs.Spelling.{text_in, byte_of, wraps_tag, letter_of, sign_text, label_text, leaf_text, leaf_size}

pub no_way : {P : Type 0} → false ≡ true → P
no_way e = let z : ◌≡◌ {A = ℕ} 0 1 = cc in absurd (omega arith)

text_append : (ms ns : List Mark) → text_of (ms ++ ns) ≡ text_of ms ++ text_of ns
unfolding text_of
text_append [] ns = refl
text_append (m ∷ ms) ns = ap (λ (l : List ℕ). mark_bytes m ++ l) (text_append ms ns) ∙ sym (append_assoc (mark_bytes m) (text_of ms) (text_of ns))

bracket_text : (ms : List Mark) → text_of (opening ∷ (ms ++ (closing ∷ []))) ≡ 40 ∷ (text_of ms ++ (41 ∷ []))
unfolding text_of mark_bytes
bracket_text ms = ap (λ (l : List ℕ). 40 ∷ l) (text_append ms (closing ∷ []))

chain_wrapped : (s : Sign) (b : ℕ) (f : Bool) (L : List Mark) (R : Bool → List Mark) → ltb (rank s) b ≡ true → text_of (chain s b f L R) ≡ 40 ∷ (text_of (chain s 0 false L R) ++ (41 ∷ []))
unfolding chain
chain_wrapped s b f L R h =
    ap (λ (c : Bool). text_of (cond c (opening ∷ ((L ++ (sign s ∷ R false)) ++ (closing ∷ []))) (L ++ (sign s ∷ R f)))) h
    ∙ bracket_text (L ++ (sign s ∷ R false))
    ∙ ap (λ (c : Bool). 40 ∷ (text_of (cond c (opening ∷ ((L ++ (sign s ∷ R false)) ++ (closing ∷ []))) (L ++ (sign s ∷ R false))) ++ (41 ∷ []))) (sym (none s))
  where
    none : (s : Sign) → ltb (rank s) 0 ≡ false
    none semicolon = refl
    none bar = refl
    none star = refl

chain-plain : (s : Sign) (b : ℕ) (f : Bool) (L : List Mark) (R : Bool → List Mark) → ltb (rank s) b ≡ false → text_of (chain s b f L R) ≡ text_of L ++ (32 ∷ sign_byte s ∷ 32 ∷ text_of (R f))
unfolding chain text_of mark_bytes
chain-plain s b f L R h =
    ap (λ (c : Bool). text_of (cond c (opening ∷ ((L ++ (sign s ∷ R false)) ++ (closing ∷ []))) (L ++ (sign s ∷ R f)))) h
    ∙ text_append L (sign s ∷ R f)

-- a term in brackets
pub wrap_text : (t : Term) (b : ℕ) (f : Bool) → wraps_tag (tag_of t) b f ≡ true → text_in t b f ≡ 40 ∷ (text_in t 0 false ++ (41 ∷ []))
unfolding wraps_tag is_pair rank_tag tag_of text_in marks_of bracketed_if
wrap_text (atomic a) b f e = no_way e
wrap_text id b f e = no_way e
wrap_text (label l t) b true e = bracket_text (label_mark l.0 ∷ marks_of t 0 false)
wrap_text (label l t) b false e = no_way e
wrap_text (sequence t u) b f e = chain_wrapped semicolon b f (marks_of t 1 true) (marks_of u 0) e
wrap_text (tensor t u) b f e = chain_wrapped star b f (marks_of t 3 true) (marks_of u 2) e
wrap_text empty b f e = no_way e
wrap_text (alternation t u) b f e = chain_wrapped bar b f (marks_of t 2 true) (marks_of u 1) e
wrap_text (assert γ) b f e = no_way e
wrap_text (defined n) b f e = no_way e

-- in brackets no more are put
pub unwrapped : (k : ℕ) → wraps_tag k 0 false ≡ false
unfolding wraps_tag
unwrapped k = go (eqb k 18) (is_pair k)
  where
    go : (c d : Bool) → cond c false (cond d (ltb (rank_tag k) 0) false) ≡ false
    go true d = refl
    go false true = le-ltb (rank_tag k) 0 (omega arith)
    go false false = refl

-- two terms with a sign
pub record PairOf (s : List ℕ) (at : ℕ) (t : Term) (b : ℕ) (f : Bool) : Type 0 where
  pub left : Term
  pub right : Term
  pub left_stands : Stands s (at + 3) left
  pub right_stands : Stands s (at + 3 + size left) right
  pub sizes : 3 + size left + size right ≡ size t
  pub counts : 1 + fields left + fields right ≡ fields t
  pub text : text_in t b f ≡ text_in left (rank_tag (tag_of t) + 1) true ++ (sign_text (tag_of t) ++ text_in right (rank_tag (tag_of t)) f)

pub pair_text : (s : List ℕ) (at : ℕ) (t : Term) (b : ℕ) (f : Bool) → Stands s at t → is_pair (tag_of t) ≡ true → wraps_tag (tag_of t) b f ≡ false → PairOf s at t b f
unfolding wraps_tag is_pair rank_tag byte_of tag_of text_in marks_of Stands size fields
pair_text s at (atomic a) b f st p e = no_way p
pair_text s at id b f st p e = no_way p
pair_text s at (label l t) b f st p e = no_way p
pair_text s at (sequence t u) b f st p e = record { left = t; right = u; left_stands = st.1; right_stands = st.2; sizes = refl; counts = refl; text = chain-plain semicolon b f (marks_of t 1 true) (marks_of u 0) e }
pair_text s at (tensor t u) b f st p e = record { left = t; right = u; left_stands = st.1; right_stands = st.2; sizes = refl; counts = refl; text = chain-plain star b f (marks_of t 3 true) (marks_of u 2) e }
pair_text s at empty b f st p e = no_way p
pair_text s at (alternation t u) b f st p e = record { left = t; right = u; left_stands = st.1; right_stands = st.2; sizes = refl; counts = refl; text = chain-plain bar b f (marks_of t 2 true) (marks_of u 1) e }
pair_text s at (assert γ) b f st p e = no_way p
pair_text s at (defined n) b f st p e = no_way p

-- a label
pub record LabelOf (s : List ℕ) (at : ℕ) (t : Term) (b : ℕ) (f : Bool) : Type 0 where
  pub inner : Term
  pub stands : Stands s (at + 5) inner
  pub sizes : 5 + size inner ≡ size t
  pub counts : 1 + fields inner ≡ fields t
  pub text : text_in t b f ≡ label_text (word s (at + 3)) ++ text_in inner 0 false

pub label_text_lem : (s : List ℕ) (at : ℕ) (t : Term) (b : ℕ) (f : Bool) → Stands s at t → tag_of t ≡ 18 → wraps_tag (tag_of t) b f ≡ false → LabelOf s at t b f
unfolding wraps_tag tag_of text_in marks_of Stands size fields bracketed_if text_of mark_bytes
label_text_lem s at (atomic a) b f st p e = absurd (omega arith)
label_text_lem s at id b f st p e = absurd (omega arith)
label_text_lem s at (label l t) b true st p e = no_way (sym e)
label_text_lem s at (label l t) b false st p e = record { inner = t; stands = st.2; sizes = refl; counts = refl; text = ap (λ (n : ℕ). (91 ∷ (decimal n ++ (93 ∷ []))) ++ text_of (marks_of t 0 false)) (sym st.1) }
label_text_lem s at (sequence t u) b f st p e = absurd (omega arith)
label_text_lem s at (tensor t u) b f st p e = absurd (omega arith)
label_text_lem s at empty b f st p e = absurd (omega arith)
label_text_lem s at (alternation t u) b f st p e = absurd (omega arith)
label_text_lem s at (assert γ) b f st p e = absurd (omega arith)
label_text_lem s at (defined n) b f st p e = absurd (omega arith)

-- a leaf
pub record LeafOf (s : List ℕ) (at : ℕ) (t : Term) (b : ℕ) (f : Bool) : Type 0 where
  pub sizes : leaf_size (tag_of t) ≡ size t
  pub text : text_in t b f ≡ leaf_text (tag_of t) (word s (at + 3))

pub leaf_text_lem : (s : List ℕ) (at : ℕ) (t : Term) (b : ℕ) (f : Bool) → Stands s at t → is_pair (tag_of t) ≡ false → (tag_of t ≡ 18 → ⊥) → LeafOf s at t b f
unfolding is_pair letter_of leaf_text leaf_size tag_of text_in marks_of text_of mark_bytes Stands size
leaf_text_lem s at (atomic a) b f st p x = record { sizes = refl; text = append-nil (97 ∷ decimal a.0) ∙ ap (λ (n : ℕ). 97 ∷ decimal n) (sym st.1) }
leaf_text_lem s at id b f st p x = record { sizes = refl; text = refl }
leaf_text_lem s at (label l t) b f st p x = absurd (x refl)
leaf_text_lem s at (sequence t u) b f st p x = no_way (sym p)
leaf_text_lem s at (tensor t u) b f st p x = no_way (sym p)
leaf_text_lem s at empty b f st p x = record { sizes = refl; text = refl }
leaf_text_lem s at (alternation t u) b f st p x = no_way (sym p)
leaf_text_lem s at (assert γ) b f st p x = record { sizes = refl; text = append-nil (63 ∷ decimal γ.0) ∙ ap (λ (n : ℕ). 63 ∷ decimal n) (sym st.1) }
leaf_text_lem s at (defined n) b f st p x = record { sizes = refl; text = append-nil (84 ∷ decimal n.0) ∙ ap (λ (n : ℕ). 84 ∷ decimal n) (sym st.1) }

-- the tag of a pair leaves room for 64 in its byte
pub pair_tag : (k : ℕ) → is_pair k ≡ true → (19 ≤ k) × (k ≤ 22)
unfolding is_pair
pair_tag k h = go (eqb k 19) (eqb k 20) refl refl h
  where
    go : (c d : Bool) → eqb k 19 ≡ c → eqb k 20 ≡ d → cond c true (cond d true (eqb k 22)) ≡ true → (19 ≤ k) × (k ≤ 22)
    go true d e f h = let z = eqb-true k 19 e in (omega (arith, z), omega (arith, z))
    go false true e f h = let z = eqb-true k 20 f in (omega (arith, z), omega (arith, z))
    go false false e f h = let z = eqb-true k 22 h in (omega (arith, z), omega (arith, z))

pub some_fields : (t : Term) → 1 ≤ fields t
unfolding fields
some_fields (atomic a) = omega arith
some_fields id = omega arith
some_fields (label l t) = omega arith
some_fields (sequence t u) = omega arith
some_fields (tensor t u) = omega arith
some_fields empty = omega arith
some_fields (alternation t u) = omega arith
some_fields (assert γ) = omega arith
some_fields (defined n) = omega arith
