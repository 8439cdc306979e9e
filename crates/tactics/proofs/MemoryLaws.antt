-- A write leaves bytes, values, goals and terms that lie elsewhere as they were: from what words and format say of one write, and for terms by induction.
-- Assumes nothing.
use Prim.Native.Nat.{ℕ, ◌+◌, ◌*◌, ◌≤◌, ◌<◌}
use mathlib.Core.Path.{◌≡◌, refl, ap, ap₂, ◌∙◌}
use mathlib.Core.List.{List}
use native.Mathlib.Omega.{arith}
use lib.ListN.{length, get_or, set, drop, length-set, length-drop}
use lib.Seq.{paste, get_or-set_other, length-paste}
use Rattle.words.specs.Word.{word, put_word}
use Rattle.words.proofs.WordLaws.{length-put_word}
use Rattle.words.proofs.KeptLaws.{kept_put, kept_copy}
use Rattle.format.specs.Goals.{goals_at}
use Rattle.format.specs.Terms.{Term, atomic, id, label, sequence, tensor, empty, alternation, assert, defined, size}
use Rattle.format.specs.Standing.{Head, Stands}
use Rattle.format.proofs.GoalsAt.{goals_shift}
use Rattle.tactics.specs.Memory.{Same, Only}

pub only_nothing : (a b : ℕ) (w : List ℕ) → Only a b w w
only_nothing a b w = record { same_length = refl; kept = record { below = λ i h. refl; above = λ i h. refl } }

pub only_set : (w : List ℕ) (at v : ℕ) → Only at (at + 1) w (set w at v)
only_set w at v = record {
  same_length = length-set w at v;
  kept = record { below = λ i h. get_or-set_other w at i v 0 (omega arith); above = λ i h. get_or-set_other w at i v 0 (omega arith) };
}

-- of two writes into one part
pub only_then : (a b : ℕ) (u v w : List ℕ) → Only a b u v → Only a b v w → Only a b u w
only_then a b u v w p q = record {
  same_length = q.same_length ∙ p.same_length;
  kept = record { below = λ i h. q.kept.below i h ∙ p.kept.below i h; above = λ i h. q.kept.above i h ∙ p.kept.above i h };
}

pub only_wider : (a b c d : ℕ) (w v : List ℕ) → Only a b w v → c ≤ a → b ≤ d → Only c d w v
only_wider a b c d w v p l r = record {
  same_length = p.same_length;
  kept = record { below = λ i h. p.kept.below i (omega arith); above = λ i h. p.kept.above i (omega arith) };
}

pub only_word : (w : List ℕ) (at v : ℕ) → Only at (at + 2) w (put_word w at v)
only_word w at v = record { same_length = length-put_word w at v; kept = kept_put w at v at (at + 2) (omega arith) (omega arith) }

pub only_copy : (d s : List ℕ) (to from n : ℕ) → to + n ≤ length d → from + n ≤ length s → Only to (to + n) d (paste d to (drop from s) n)
only_copy d s to from n h g =
    let room : n ≤ length (drop from s) = simp length-drop (omega arith) in
    record { same_length = length-paste d to (drop from s) n h room; kept = kept_copy d s to from n to (to + n) h g (omega arith) (omega arith) }

module _ (w v : List ℕ) where
  pub same_word : (x y at : ℕ) → Same x y w v → x ≤ at → at + 1 < y → word v at ≡ word w at
  unfolding word
  same_word x y at h l r = ap₂ (λ (a b : ℕ). a * 256 + b) (h at l (omega arith)) (h (at + 1) (omega arith) r)

  pub same_goals : (n at : ℕ) → Same at (at + n * 2) w v → goals_at v at n ≡ goals_at w at n
  same_goals n at h = goals_shift n v w at at (λ x y e l u. let q : x ≡ y = omega arith in h x l u ∙ ap (λ (i : ℕ). get_or w i 0) q)

  module _ (len : length v ≡ length w) where
    pub same_head : (x y at tag n : ℕ) → Same x y w v → x ≤ at → at + 2 < y → Head w at tag n → Head v at tag n
    same_head x y at tag n h l r d = record {
      tag_is = h at l (omega arith) ∙ d.tag_is;
      length_is = same_word x y (at + 1) h (omega arith) (omega arith) ∙ d.length_is;
      inside = omega (arith, len, d);
    }

    pub same_term : (t : Term) (x y at : ℕ) → Same x y w v → x ≤ at → at + size t ≤ y → Stands w at t → Stands v at t
    unfolding Stands size
    same_term (atomic a) x y at h l r st = (same_head x y at 16 2 h l (omega arith) st.0, same_word x y (at + 3) h (omega arith) (omega arith) ∙ st.1)
    same_term id x y at h l r st = same_head x y at 17 0 h l (omega arith) st
    same_term (label k t) x y at h l r st = (
      same_head x y at 18 (2 + size t) h l (omega arith) st.0,
      same_word x y (at + 3) h (omega arith) (omega arith) ∙ st.1,
      same_term t x y (at + 5) h (omega arith) (omega arith) st.2,
    )
    same_term (sequence a b) x y at h l r st = (
      same_head x y at 19 (size a + size b) h l (omega arith) st.0,
      same_term a x y (at + 3) h (omega arith) (omega arith) st.1,
      same_term b x y (at + 3 + size a) h (omega arith) (omega arith) st.2,
    )
    same_term (tensor a b) x y at h l r st = (
      same_head x y at 20 (size a + size b) h l (omega arith) st.0,
      same_term a x y (at + 3) h (omega arith) (omega arith) st.1,
      same_term b x y (at + 3 + size a) h (omega arith) (omega arith) st.2,
    )
    same_term empty x y at h l r st = same_head x y at 21 0 h l (omega arith) st
    same_term (alternation a b) x y at h l r st = (
      same_head x y at 22 (size a + size b) h l (omega arith) st.0,
      same_term a x y (at + 3) h (omega arith) (omega arith) st.1,
      same_term b x y (at + 3 + size a) h (omega arith) (omega arith) st.2,
    )
    same_term (assert g) x y at h l r st = (same_head x y at 23 2 h l (omega arith) st.0, same_word x y (at + 3) h (omega arith) (omega arith) ∙ st.1)
    same_term (defined d) x y at h l r st = (same_head x y at 24 2 h l (omega arith) st.0, same_word x y (at + 3) h (omega arith) (omega arith) ∙ st.1)
