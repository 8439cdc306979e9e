-- The fields of a term one after the other: what stands from each on, the links back, and their own arities.
-- Assumes nothing.
use mathlib.Core.Path.{◌≡◌, refl, sym, subst, ap, ◌∙◌}
use mathlib.Core.List.{List, [], ◌∷◌}
use Prim.Native.Nat.{ℕ, ◌+◌, ◌≤◌, ◌<◌}
use native.Mathlib.Omega.{arith}
use lib.ListN.{length, get_or}
use Rattle.words.specs.Word.{word, put_word}
use Rattle.words.specs.Kept.{Kept}
use Rattle.words.proofs.WordLaws.{word_same}
use Rattle.words.proofs.KeptLaws.{kept_put, kept_same, kept_both, word_below, word_above}
use Rattle.format.specs.Terms.{Term, atomic, id, label, sequence, tensor, empty, alternation, assert, defined, size}
use Rattle.format.specs.Standing.{Stands}
use Rattle.format.proofs.StandsLaws.{tag_of, known}
use Rattle.format.proofs.ByTag.{Two, by_tag}
use Rattle.hitac.specs.Hiproofs.{input_arity}
use Rattle.input_arities.specs.Layout.{stack_end}
use Rattle.input_arities.specs.Threads.{slot, width, after, Forest, total, Past, first_field, next_field, Links, Own, Owns, Room, Threads}

-- the links up to a place, and the next place
pub record Linking (at : ℕ) (t₀ : Term) (w₀ w : List ℕ) (place r : ℕ) : Type 0 where
  pub term : Term
  pub rest : List Term
  pub past : Past at t₀ place (term ∷ rest)
  pub links : Links w place past
  pub next_is : r ≡ place + width term
  pub kept : Kept w₀ w 0 stack_end

-- the fields behind a place have their own arities, the others their links
pub record Settling (at : ℕ) (t₀ : Term) (w₀ w : List ℕ) (place : ℕ) : Type 0 where
  pub term : Term
  pub rest : List Term
  pub past : Past at t₀ place (term ∷ rest)
  pub links : Links w place past
  pub owns : Owns w (place + width term) (after term rest)
  pub kept : Kept w₀ w 0 stack_end

-- the bytes of fields rise with their places
pub slot_rises : (a b : ℕ) → a ≤ b → slot a ≤ slot b
unfolding slot
slot_rises a b h = omega arith

pub slot_apart : (a b : ℕ) → a + 3 ≤ b → slot a + 2 ≤ slot b
unfolding slot
slot_apart a b h = omega arith

pub arity_le : (t : Term) → input_arity t ≤ size t
unfolding input_arity size
arity_le (atomic a) = omega arith
arity_le id = omega arith
arity_le (label l t) = omega arith
arity_le (sequence t u) = omega (arith, arity_le t)
arity_le (tensor t u) = omega (arith, arity_le t, arity_le u)
arity_le empty = omega arith
arity_le (alternation t u) = omega arith
arity_le (assert γ) = omega arith
arity_le (defined n) = omega arith

pub width_three : (t : Term) → 3 ≤ width t
unfolding width
width_three (atomic a) = omega arith
width_three id = omega arith
width_three (label l t) = omega arith
width_three (sequence t u) = omega arith
width_three (tensor t u) = omega arith
width_three empty = omega arith
width_three (alternation t u) = omega arith
width_three (assert γ) = omega arith
width_three (defined n) = omega arith

-- the next field's terms take up the rest of the bytes
pub total-after : (t : Term) (g : List Term) → width t + total (after t g) ≡ size t + total g
unfolding width after total size
total-after (atomic a) g = omega arith
total-after id g = omega arith
total-after (label l t) g = omega arith
total-after (sequence t u) g = omega arith
total-after (tensor t u) g = omega arith
total-after empty g = omega arith
total-after (alternation t u) g = omega arith
total-after (assert γ) g = omega arith
total-after (defined n) g = omega arith

-- what stands from a place on, at an equal place
moved-forest : (s : List ℕ) (i j : ℕ) (g : List Term) → i ≡ j → Forest s i g → Forest s j g
moved-forest s i j g e x = subst (λ (k : ℕ). Forest s k g) e x

moved_owns : (w : List ℕ) (i j : ℕ) (g : List Term) → i ≡ j → Owns w i g → Owns w j g
moved_owns w i j g e x = subst (λ (k : ℕ). Owns w k g) e x

pub forest-after : (s : List ℕ) (p : ℕ) (t : Term) (g : List Term) → Forest s p (t ∷ g) → Forest s (p + width t) (after t g)
unfolding width after Forest Stands size
forest-after s p (atomic a) g x = x.1
forest-after s p id g x = x.1
forest-after s p (label l t) g x = (x.0.2, moved-forest s _ _ g (omega arith) x.1)
forest-after s p (sequence t u) g x = (x.0.1, (x.0.2, moved-forest s _ _ g (omega arith) x.1))
forest-after s p (tensor t u) g x = (x.0.1, (x.0.2, moved-forest s _ _ g (omega arith) x.1))
forest-after s p empty g x = x.1
forest-after s p (alternation t u) g x = x.1
forest-after s p (assert γ) g x = x.1
forest-after s p (defined n) g x = x.1

-- a field that got its own arity, before fields that have theirs
pub own_made : (w : List ℕ) (p : ℕ) (t : Term) (g : List Term) → word w (slot p) ≡ input_arity t → Owns w (p + width t) (after t g) → Owns w p (t ∷ g)
unfolding width after Owns Own size input_arity
own_made w p (atomic a) g e x = (e, x)
own_made w p id g e x = (e, x)
own_made w p (label l t) g e x = ((e, x.0), moved_owns w _ _ g (omega arith) x.1)
own_made w p (sequence t u) g e x = ((e, x.0, x.1.0), moved_owns w _ _ g (omega arith) x.1.1)
own_made w p (tensor t u) g e x = ((e, x.0, x.1.0), moved_owns w _ _ g (omega arith) x.1.1)
own_made w p empty g e x = (e, x)
own_made w p (alternation t u) g e x = (e, x)
own_made w p (assert γ) g e x = (e, x)
own_made w p (defined n) g e x = (e, x)

pub own_after : (w : List ℕ) (p : ℕ) (t : Term) (g : List Term) → Owns w p (t ∷ g) → Owns w (p + width t) (after t g)
unfolding width after Owns Own size
own_after w p (atomic a) g x = x.1
own_after w p id g x = x.1
own_after w p (label l t) g x = (x.0.1, moved_owns w _ _ g (omega arith) x.1)
own_after w p (sequence t u) g x = (x.0.1, (x.0.2, moved_owns w _ _ g (omega arith) x.1))
own_after w p (tensor t u) g x = (x.0.1, (x.0.2, moved_owns w _ _ g (omega arith) x.1))
own_after w p empty g x = x.1
own_after w p (alternation t u) g x = x.1
own_after w p (assert γ) g x = x.1
own_after w p (defined n) g x = x.1

pub own_here : (w : List ℕ) (p : ℕ) (t : Term) → Own w p t → word w (slot p) ≡ input_arity t
unfolding Own input_arity
own_here w p (atomic a) x = x
own_here w p id x = x
own_here w p (label l t) x = x.0
own_here w p (sequence t u) x = x.0
own_here w p (tensor t u) x = x.0
own_here w p empty x = x
own_here w p (alternation t u) x = x
own_here w p (assert γ) x = x
own_here w p (defined n) x = x

-- fields whose bytes are as they were hold their arities
module _ (w w' : List ℕ) where
  abbrev pub Same : (p end : ℕ) → Type 0
  Same p end = (q : ℕ) → p ≤ q → q + 3 ≤ end → word w' (slot q) ≡ word w (slot q)

  own_same : (t : Term) (p end : ℕ) → p + size t ≤ end → Same p end → Own w p t → Own w' p t
  unfolding Own size
  own_same (atomic n) p end h f x = f p (omega arith) (omega arith) ∙ x
  own_same id p end h f x = f p (omega arith) (omega arith) ∙ x
  own_same (label l t) p end h f x = (f p (omega arith) (omega arith) ∙ x.0, own_same t (p + 5) end (omega arith) (λ q l₁ r. f q (omega arith) r) x.1)
  own_same (sequence t u) p end h f x = (f p (omega arith) (omega arith) ∙ x.0, own_same t (p + 3) end (omega arith) (λ q l r. f q (omega arith) r) x.1, own_same u (p + 3 + size t) end (omega arith) (λ q l r. f q (omega arith) r) x.2)
  own_same (tensor t u) p end h f x = (f p (omega arith) (omega arith) ∙ x.0, own_same t (p + 3) end (omega arith) (λ q l r. f q (omega arith) r) x.1, own_same u (p + 3 + size t) end (omega arith) (λ q l r. f q (omega arith) r) x.2)
  own_same empty p end h f x = f p (omega arith) (omega arith) ∙ x
  own_same (alternation t u) p end h f x = f p (omega arith) (omega arith) ∙ x
  own_same (assert γ) p end h f x = f p (omega arith) (omega arith) ∙ x
  own_same (defined n) p end h f x = f p (omega arith) (omega arith) ∙ x

  pub owns_same : (g : List Term) (p end : ℕ) → p + total g ≤ end → Same p end → Owns w p g → Owns w' p g
  unfolding Owns total
  owns_same [] p end h f x = tt
  owns_same (t ∷ g) p end h f x = (own_same t p end (omega arith) f x.0, owns_same g (p + size t) end (omega arith) (λ q l r. f q (omega arith) r) x.1)

-- a write before a place leaves what is noted from there on
pub owns_kept : (w w' : List ℕ) (a b : ℕ) → Kept w w' a b → (g : List Term) (p : ℕ) → b ≤ slot p → Owns w p g → Owns w' p g
owns_kept w w' a b k g p h x = owns_same w w' g p (p + total g) (omega arith) (λ q l r. word_above w w' a b k (slot q) (omega (arith, slot_rises p q l))) x

-- what is known of a place with a past
module _ (s : List ℕ) (at : ℕ) (t₀ : Term) (st : Stands s at t₀) where
  pub forest_of : (q : ℕ) (h : List Term) → Past at t₀ q h → Forest s q h
  unfolding Forest
  forest_of q h (first_field e f) = subst (λ (i : ℕ). Forest s i h) (sym e) (subst (Forest s at) (sym f) (st, tt))
  forest_of q h (next_field p t g e f past) = subst (λ (i : ℕ). Forest s i h) (sym e) (subst (Forest s (p + width t)) (sym f) (forest-after s p t g (forest_of p (t ∷ g) past)))

  pub total_of : (q : ℕ) (h : List Term) → Past at t₀ q h → (at ≤ q) × (q + total h ≡ at + size t₀)
  unfolding total
  total_of q h (first_field e f) = (omega (arith, e), ap (λ (l : List Term). q + total l) f ∙ omega (arith, e))
  total_of q h (next_field p t g e f past) =
      let z = total_of p (t ∷ g) past in
      (omega (arith, z.0, e), ap (λ (l : List Term). q + total l) f ∙ omega (arith, z.1, e, total-after t g))

-- a write behind a place leaves the links from there back
pub links_kept : (w w' : List ℕ) (a b : ℕ) → Kept w w' a b → (at : ℕ) (t₀ : Term) (q : ℕ) (h : List Term) (past : Past at t₀ q h) → slot q + 2 ≤ a → Links w q past → Links w' q past
unfolding Links
links_kept w w' a b k at t₀ q h (first_field e f) l x = tt
links_kept w w' a b k at t₀ q h (next_field p t g e f past) l x = (
  word_below w w' a b k (slot q) l ∙ x.0,
  links_kept w w' a b k at t₀ p (t ∷ g) past (omega (arith, slot_apart p q (omega (arith, e, width_three t)))) x.1,
)

-- ---- the links

pub some_next : (h : List Term) (q end : ℕ) → q + total h ≡ end → (q ≡ end → ⊥) → (u : Term) × (g : List Term) × (h ≡ u ∷ g)
unfolding total
some_next [] q end e n = absurd (n (omega (arith, e)))
some_next (u ∷ g) q end e n = (u, g, refl)

module _ (s : List ℕ) (at end : ℕ) (t₀ : Term) (w₀ : List ℕ) (o : Room s at end w₀ t₀) where
  -- the terms from a place with a past on: the first of them stands there, before the end
  stands_there : (q : ℕ) (u : Term) (g : List Term) → Past at t₀ q (u ∷ g) → Stands s q u × (q + size u ≤ end) × (at ≤ q)
  unfolding Forest total
  stands_there q u g past = let z = total_of s at t₀ o.stands q (u ∷ g) past in ((forest_of s at t₀ o.stands q (u ∷ g) past).0, omega (arith, z.1, o.ends), z.0)

  pub linking_start : (r : ℕ) → ((u : Term) → Stands s at u → r ≡ at + width u) → Linking at t₀ w₀ w₀ at r
  unfolding Links
  linking_start r f = record { term = t₀; rest = []; past = first_field refl refl; links = tt; next_is = f t₀ o.stands; kept = kept_same w₀ _ _ }

  module _ (w : List ℕ) (place r : ℕ) (l : Linking at t₀ w₀ w place r) where
    ahead : Past at t₀ r (after l.term l.rest)
    ahead = next_field place l.term l.rest l.next_is refl l.past

    there : (r ≡ end → ⊥) → (u : Term) × (g : List Term) × (after l.term l.rest ≡ u ∷ g)
    there n = some_next (after l.term l.rest) r end ((total_of s at t₀ o.stands r _ ahead).1 ∙ o.ends) n

    past_there : (n : r ≡ end → ⊥) → Past at t₀ r ((there n).0 ∷ (there n).1)
    past_there n = next_field place l.term l.rest l.next_is (sym (there n).2) l.past

    pub link_there : (n : r ≡ end → ⊥) → (u : Term) × Stands s r u × (r + size u ≤ end) × (at ≤ r) × (slot r + 2 ≤ slot end) × (place + 3 ≤ r)
    link_there n =
        let z = stands_there r (there n).0 (there n).1 (past_there n) in
        ((there n).0, z.0, z.1, z.2, slot_apart r end (omega (arith, z.1, (known s r (there n).0 z.0).three)), omega (arith, l.next_is, width_three l.term))

    pub linking_next : (n : r ≡ end → ⊥) (w' : List ℕ) → w' ≡ put_word w (slot r) place → length w ≡ length w₀ → (r' : ℕ) → ((u : Term) → Stands s r u → r' ≡ r + width u) → Linking at t₀ w₀ w' r r'
    unfolding Links past_there
    linking_next n w' e len r' f =
        let z = link_there n in
        let k : Kept w w' (slot r) (slot r + 2) = subst (λ (v : List ℕ). Kept w v (slot r) (slot r + 2)) (sym e) (kept_put w (slot r) place (slot r) (slot r + 2) (omega arith) (omega arith)) in
        record {
          term = (there n).0;
          rest = (there n).1;
          past = past_there n;
          links = (
            ap (λ (v : List ℕ). word v (slot r)) e ∙ word_same w (slot r) place (omega (arith, z.4, len, o.slots, o.space)),
            links_kept w w' _ _ k at t₀ place (l.term ∷ l.rest) l.past (slot_apart place r z.5) l.links,
          );
          next_is = f (there n).0 (stands_there r (there n).0 (there n).1 (past_there n)).0;
          kept = kept_both w₀ w w' _ _ _ _ 0 stack_end l.kept k (omega arith) (omega arith) (omega arith) (omega (arith, z.4, o.slots));
        }

    pub linking_end : r ≡ end → Threads at end t₀ w₀ w place
    linking_end e = record { term = l.term; rest = l.rest; past = l.past; links = l.links; last = sym l.next_is ∙ e; kept = l.kept }

  -- ---- their own arities

  gone : (h : List Term) (q : ℕ) → q + total h ≡ end → q ≡ end → (w : List ℕ) → Forest s q h → Owns w q h
  unfolding Owns total Forest
  gone [] q e f w x = tt
  gone (u ∷ g) q e f w x = absurd (omega (arith, e, f, (known s q u x.0).three))

  pub settling_start : (v : List ℕ) (r : ℕ) → Threads at end t₀ v w₀ r → Settling at t₀ w₀ w₀ r
  settling_start v r x =
      let p = next_field r x.term x.rest refl refl x.past in
      record {
        term = x.term;
        rest = x.rest;
        past = x.past;
        links = x.links;
        owns = gone (after x.term x.rest) (r + width x.term) ((total_of s at t₀ o.stands _ _ p).1 ∙ o.ends) x.last w₀ (forest_of s at t₀ o.stands _ _ p);
        kept = kept_same w₀ _ _;
      }

  module _ (w : List ℕ) (place : ℕ) (l : Settling at t₀ w₀ w place) where
    pub settle_there : Stands s place l.term × (place + size l.term ≤ end) × (at ≤ place) × (slot place + 2 ≤ slot end)
    settle_there =
        let z = stands_there place l.term l.rest l.past in
        (z.0, z.1, z.2, slot_apart place end (omega (arith, z.1, (known s place l.term z.0).three)))

    less : (h : List Term) (past : Past at t₀ place h) → Links w place past → (place ≡ at → ⊥) → word w (slot place) < place
    unfolding Links
    less h (first_field f g) x n = absurd (n f)
    less h (next_field p t g f k past) x n = omega (arith, x.0, f, width_three t)

    pub settling_less : (place ≡ at → ⊥) → word w (slot place) < place
    settling_less n = less (l.term ∷ l.rest) l.past l.links n

    module _ (w' : List ℕ) (arity : ℕ) (e : w' ≡ put_word w (slot place) arity) (is : arity ≡ input_arity l.term) (len : length w ≡ length w₀) where
      put-kept : Kept w w' (slot place) (slot place + 2)
      put-kept = subst (λ (v : List ℕ). Kept w v (slot place) (slot place + 2)) (sym e) (kept_put w (slot place) arity (slot place) (slot place + 2) (omega arith) (omega arith))

      put_owns : Owns w' place (l.term ∷ l.rest)
      put_owns = own_made w' place l.term l.rest (ap (λ (v : List ℕ). word v (slot place)) e ∙ word_same w (slot place) arity (omega (arith, settle_there.3, len, o.slots, o.space)) ∙ is)
          (owns_kept w w' _ _ put-kept (after l.term l.rest) (place + width l.term) (slot_apart place (place + width l.term) (omega (arith, width_three l.term))) l.owns)

      put_wide : Kept w₀ w' 0 stack_end
      put_wide = kept_both w₀ w w' _ _ _ _ 0 stack_end l.kept put-kept (omega arith) (omega arith) (omega arith) (omega (arith, settle_there.3, o.slots))

      back : (h : List Term) (past : Past at t₀ place h) → Links w place past → Owns w' place h → (place ≡ at → ⊥) → Settling at t₀ w₀ w' (word w (slot place))
      unfolding Links
      back h (first_field f g) x y n = absurd (n f)
      back h (next_field p t g f k past) x y n =
          subst (λ (q : ℕ). Settling at t₀ w₀ w' q) (sym x.0) (record {
            term = t;
            rest = g;
            past = past;
            links = links_kept w w' _ _ put-kept at t₀ p (t ∷ g) past (slot_apart p place (omega (arith, f, width_three t))) x.1;
            owns = subst (λ (q : ℕ). Owns w' q (after t g)) f (subst (Owns w' place) k y);
            kept = put_wide;
          })

      pub settling_back : (place ≡ at → ⊥) → Settling at t₀ w₀ w' (word w (slot place))
      settling_back n = back (l.term ∷ l.rest) l.past l.links put_owns n

      whole : (h : List Term) → Past at t₀ place h → Owns w' place h → place ≡ at → Own w' at t₀
      unfolding Owns
      whole h (first_field f g) y e = (subst (λ (q : ℕ). Owns w' q (t₀ ∷ [])) e (subst (Owns w' place) g y)).0
      whole h (next_field p t g f k past) y e = absurd (omega (arith, (total_of s at t₀ o.stands p (t ∷ g) past).0, f, width_three t, e))

      pub settled : place ≡ at → Own w' at t₀ × Kept w₀ w' 0 stack_end
      settled e = (whole (l.term ∷ l.rest) l.past put_owns e, put_wide)

-- ---- what the small functions come to, by the tag

width_pair : (t : Term) → 18 < tag_of t → tag_of t < 21 → 3 ≡ width t
unfolding width tag_of
width_pair (atomic a) l h = absurd (omega arith)
width_pair id l h = absurd (omega arith)
width_pair (label k t) l h = absurd (omega arith)
width_pair (sequence t u) l h = refl
width_pair (tensor t u) l h = refl
width_pair empty l h = absurd (omega arith)
width_pair (alternation t u) l h = absurd (omega arith)
width_pair (assert γ) l h = absurd (omega arith)
width_pair (defined n) l h = absurd (omega arith)

width_whole : (t : Term) → (18 ≤ tag_of t → 20 < tag_of t) → width t ≡ size t
unfolding width size tag_of
width_whole (atomic a) h = refl
width_whole id h = refl
width_whole (label l t) h = absurd (omega (arith, h))
width_whole (sequence t u) h = absurd (omega (arith, h))
width_whole (tensor t u) h = absurd (omega (arith, h))
width_whole empty h = refl
width_whole (alternation t u) h = refl
width_whole (assert γ) h = refl
width_whole (defined n) h = refl

one_arity : (t : Term) → tag_of t < 19 → input_arity t ≡ 1
unfolding tag_of input_arity
one_arity (atomic a) h = refl
one_arity id h = refl
one_arity (label l t) h = refl
one_arity (sequence t u) h = absurd (omega arith)
one_arity (tensor t u) h = absurd (omega arith)
one_arity empty h = absurd (omega arith)
one_arity (alternation t u) h = absurd (omega arith)
one_arity (assert γ) h = absurd (omega arith)
one_arity (defined n) h = absurd (omega arith)

no_arity : (t : Term) → (16 ≤ tag_of t → 20 < tag_of t) → input_arity t ≡ 0
unfolding tag_of input_arity
no_arity (atomic a) h = absurd (omega (arith, h))
no_arity id h = absurd (omega (arith, h))
no_arity (label l t) h = absurd (omega (arith, h))
no_arity (sequence t u) h = absurd (omega (arith, h))
no_arity (tensor t u) h = absurd (omega (arith, h))
no_arity empty h = refl
no_arity (alternation t u) h = refl
no_arity (assert γ) h = refl
no_arity (defined n) h = refl

module _ (s : List ℕ) (at : ℕ) where
  pub next_label : get_or s at 0 ≡ 18 → (t : Term) → Stands s at t → at + 5 ≡ at + width t
  unfolding width
  next_label e = by_tag s at (λ t. at + 5 ≡ at + width t) 18 (λ l t o. refl) e

  pub next_pair : 18 < get_or s at 0 → get_or s at 0 < 21 → (t : Term) → Stands s at t → at + 3 ≡ at + width t
  next_pair l h t st = let k = (known s at t st).tag_is in ap (λ (k : ℕ). at + k) (width_pair t (omega arith) (omega arith))

  pub next_other : (18 ≤ get_or s at 0 → 20 < get_or s at 0) → (t : Term) → Stands s at t → at + 3 + word s (at + 1) ≡ at + width t
  next_other h t st = let k = known s at t st in omega (arith, k.length_is, width_whole t (λ e. omega (arith, h, k.tag_is)))

  pub arity_one : get_or s at 0 < 19 → (t : Term) → Stands s at t → 1 ≡ input_arity t
  arity_one h t st = sym (one_arity t (omega (arith, (known s at t st).tag_is)))

  pub arity_none : (16 ≤ get_or s at 0 → 20 < get_or s at 0) → (t : Term) → Stands s at t → 0 ≡ input_arity t
  arity_none h t st = sym (no_arity t (λ e. omega (arith, h, (known s at t st).tag_is)))

  module _ (w : List ℕ) where
    abbrev After : Term → List Term → Type 0
    After t g = Owns w (at + width t) (after t g)

    pub arity_sequence : get_or s at 0 ≡ 19 → (t : Term) (g : List Term) → Stands s at t → After t g → word w (slot (at + 3)) ≡ input_arity t
    unfolding width after Owns input_arity
    arity_sequence e t g st x = by_tag s at (λ t. After t g → word w (slot (at + 3)) ≡ input_arity t) 19 (λ a b o y. own_here w (at + 3) a y.0) e t st x

    pub arity_tensor : get_or s at 0 ≡ 20 → (i : ℕ) → i ≡ at + 6 + word s (at + 4) → (t : Term) (g : List Term) → Stands s at t → After t g → word w (slot (at + 3)) + word w (slot i) ≡ input_arity t
    unfolding width after Owns input_arity
    arity_tensor e i is t g st x = by_tag s at (λ t. After t g → word w (slot (at + 3)) + word w (slot i) ≡ input_arity t) 20
        (λ a b o y. omega (arith, own_here w (at + 3) a y.0, ap (λ (j : ℕ). word w (slot j)) (is ∙ o.behind) ∙ own_here w (at + 3 + size a) b y.1.0)) e t st x

  -- where the inner terms' bytes lie
  pub record Inner (end : ℕ) : Type 0 where
    pub left : slot (at + 3) + 2 ≤ slot end
    pub right : slot (at + 6 + word s (at + 4)) + 2 ≤ slot end
    pub own : slot at + 2 ≤ slot end
    pub six : at + 9 ≤ length s
    pub nine : at + 9 ≤ end
    pub next : at + 6 + word s (at + 4) + 3 ≤ end

  inner : (t u : Term) → Two s at t u → Inner (at + (3 + size t + size u))
  inner t u o = record {
    left = slot_apart (at + 3) (at + (3 + size t + size u)) (omega (arith, o.first_size));
    right = slot_apart (at + 6 + word s (at + 4)) (at + (3 + size t + size u)) (omega (arith, o.behind, o.second_size));
    own = slot_apart at (at + (3 + size t + size u)) (omega arith);
    six = omega (arith, o.inside, o.first_size, o.second_size);
    nine = omega (arith, o.first_size, o.second_size);
    next = omega (arith, o.behind, o.second_size);
  }

  pub inner_sequence : get_or s at 0 ≡ 19 → (t : Term) → Stands s at t → Inner (at + size t)
  unfolding size
  inner_sequence e = by_tag s at (λ t. Inner (at + size t)) 19 (λ a b o. inner a b o) e

  pub inner_tensor : get_or s at 0 ≡ 20 → (t : Term) → Stands s at t → Inner (at + size t)
  unfolding size
  inner_tensor e = by_tag s at (λ t. Inner (at + size t)) 20 (λ a b o. inner a b o) e

-- a work space of the same length has the same room
pub room_again : (s : List ℕ) (at end : ℕ) (w w' : List ℕ) (t : Term) → length w' ≡ length w → Room s at end w t → Room s at end w' t
room_again s at end w w' t e o = record { stands = o.stands; ends = o.ends; slots = o.slots; small = o.small; few = o.few; space = omega (arith, o.space, e) }
