-- What a search by the index says of the fields that the index is of: which of them has the key, or that none has.
-- Assumes nothing.
use Rattle.std.specs.Prelude.{Result, Ok, Err, Some, None}
use Rattle.std.specs.Result.{result_ok}
use mathlib.Core.Path.{◌≡◌, refl, sym, subst, ap, ◌∙◌}
use mathlib.Core.Bool.{true}
use mathlib.Core.List.{List, Memᴰ}
use Prim.Native.Nat.{ℕ, ◌+◌, ◌<◌}
use native.Mathlib.Omega.{arith}
use lib.ListN.{length, get_or}
use Rattle.words.specs.Word.{word}
use Rattle.tables.specs.declared.repeats.Repeat.{Repeat}
use Rattle.index.specs.declared.seek.Found.{Found}
use Rattle.index.specs.declared.seek.Vacant.{Vacant}
use Rattle.index.specs.declared.seek.Vacant.TheVariants.{Side, Head}
use Rattle.index.specs.Nodes.{head_of, place_of, link_of}
use Rattle.index.specs.Keys.{is_key, digits}
use Rattle.index.specs.Index.{hits, FindsKey, MissesKey, Sound, Seeks, Tree}
use Rattle.index.proofs.SeekLaws.{one_found, not_both}
use Rattle.index.proofs.TreeLaws.{of_seen}
use Rattle.index.proofs.KeyLaws.{key_says}

module _ (kind : Repeat) (s ps w : List ℕ) (base n : ℕ) (tree : Tree kind s ps w base n) (value more : ℕ) where
  -- no field has the key
  abbrev pub Nowhere : Type 0
  Nowhere = (p : ℕ) → Memᴰ p ps → is_key kind s value more p ≡ true → ⊥

  -- the field with a number, at a place, has it, and no other
  pub record Only (i q : ℕ) : Type 0 where
    pub within : i < length ps
    pub numbered : get_or ps i 0 ≡ q
    pub among : Memᴰ q ps
    pub key : is_key kind s value more q ≡ true
    pub one : (p : ℕ) → Memᴰ p ps → is_key kind s value more p ≡ true → p ≡ q

  -- the search for the key of a field finds its node
  its_way : (p : ℕ) (m : Memᴰ p ps) → is_key kind s value more p ≡ true → FindsKey kind s w base value more (tree.holds p m).node
  its_way p m k =
      let h = tree.holds p m in
      let e = key_says kind s value more p k in
      subst (λ (v : ℕ). FindsKey kind s w base v more h.node) (sym e.0) (subst (λ (v : ℕ). FindsKey kind s w base (word s (p + 3)) v h.node) (sym e.1) h.found)

  pub headless : head_of w base (digits value more) ≡ 0 → Nowhere
  headless z p m k = omega (arith, (its_way p m k).headed)

  pub missed : (k t : ℕ) → MissesKey kind s w base value more k t → Nowhere
  missed k t f p m c = not_both (link_of w base) (hits kind s w base value more) (its_way p m c).way f.way

  pub found : (i q : ℕ) → i < n → place_of w base i ≡ q → is_key kind s value more q ≡ true → FindsKey kind s w base value more i → Only i q
  found i q l at-q k f = record {
    within = omega (arith, tree.many);
    numbered = sym (tree.in_order i l) ∙ at-q;
    among = subst (λ (x : ℕ). Memᴰ x ps) at-q (of_seen kind s ps w base n tree i l);
    key = k;
    one = λ p m c.
        let same = one_found (link_of w base) (hits kind s w base value more) (its_way p m c).way f.way in
        sym (tree.holds p m).is ∙ subst (λ (j : ℕ). place_of w base j ≡ q) (sym same) at-q;
  }

  -- by where the code's search ends
  module _ (r : Result Found Vacant) (so : (n : ℕ) → Sound kind s w base n → Seeks kind s w base n value more r) where
    own : (x : Result Found Vacant) → r ≡ x → Seeks kind s w base n value more x
    own x e = subst (λ (x : Result Found Vacant). Seeks kind s w base n value more x) e (so n tree.sound)

    pub at_vacant : (v : Vacant) → r ≡ Err v → Nowhere
    unfolding Seeks
    at_vacant Head e = headless (own (Err Head) e)
    at_vacant (Side k t) e = missed k t (own (Err (Side k t)) e).2

    pub at_node : (f : Found) → r ≡ Ok f → Only f.node f.place
    unfolding Seeks
    at_node f e = let x = own (Ok f) e in found f.node f.place x.0 x.1 x.2 x.3

    -- the same where only a node is looked at
    pub none_at : result_ok r ≡ None → Nowhere
    none_at = go r refl
      where
        go : (x : Result Found Vacant) → r ≡ x → result_ok x ≡ None → Nowhere
        go (Ok f) e z = absurd (cc)
        go (Err v) e z = at_vacant v e

    pub some_at : (f : Found) → result_ok r ≡ Some f → Only f.node f.place
    some_at f = go r refl
      where
        go : (x : Result Found Vacant) → r ≡ x → result_ok x ≡ Some f → Only f.node f.place
        go (Ok g) e z = let same : g ≡ f = cc in at_node f (rw e (ap Ok same))
        go (Err v) e z = absurd (cc)
