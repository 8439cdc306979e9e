-- What the loops over `begin` and `resume` need besides: a term that begins without its labels, a term that acts and ends, a write behind the arities, and the walk's start.
-- Assumes nothing.
use Rattle.std.specs.Prelude.{Ok, Err}
use Rattle.std.specs.Prelude as std
use mathlib.Core.Path.{◌≡◌, refl, sym, subst, ap, ◌∙◌}
use mathlib.Core.Logic.{inl, inr}
use mathlib.Core.Bool.{true, false}
use mathlib.Core.List.{List, []}
use Prim.Native.Nat.{ℕ, ◌+◌, ◌*◌, ◌-◌, ◌≤◌}
use native.Mathlib.Omega.{arith}
use lib.ListN.{length, get_or}
use Rattle.words.specs.Kept.{Kept}
use Rattle.words.proofs.KeptLaws.{kept_same, kept_both}
use Rattle.format.specs.Limits.{most_bytes, most_term_fields, most_goals}
use Rattle.format.specs.declared.refusals.Cause.{Cause}
use Rattle.format.specs.declared.refusals.Cause.TheVariants.{GoalCountWrong}
use Rattle.format.specs.declared.refusals.Refusal.{Refusal}
use Rattle.format.specs.Results.{refused, refused_at}
use Rattle.format.specs.Terms.{Term, atomic, id, label, sequence, tensor, empty, alternation, assert, defined, size, fields}
use Rattle.format.specs.Standing.{Stands}
use Rattle.format.proofs.StandsLaws.{tag_of, known}
use Rattle.hitac.specs.Hiproofs.{atomics}
use Rattle.hitac.proofs.TermBounds.{atomics-fields}
use Rattle.input_arities.specs.Layout.{stack_end, frames_end, arities_end}
use Rattle.input_arities.specs.Arities.{arities, Ahead}
use Rattle.input_arities.proofs.ArityLaws.{ahead_kept}
use Rattle.walks.specs.declared.state.Next.{Next}
use Rattle.walks.specs.declared.state.Turn.{Turn}
use Rattle.walks.specs.declared.state.Turn.TheVariants as U
use Rattle.walks.specs.Values.{values_at}
use Rattle.walks.specs.Walks.{Act, walk_of}
use Rattle.walks.specs.Labels.{bare, bare_at, label_count_wrong}
use Rattle.walks.specs.Waiting.{Waiting, resumed, pending, later, weight}
use Rattle.walks.specs.Shows.{Shown}
use Rattle.walks.specs.Loops.{Aim, BeginsWith, Begins, GaveWith, Gave, placed, start_of, Leaf, Acted, Turned, Steps}
use Rattle.walks.proofs.ValueLaws.{length_values, values_below}
use Rattle.walks.proofs.LabelLaws.{bare_tag, bare_stands, same_end, same_uses, fewer_fields_lem, same_arities, bare_walks, label_refused}
use Rattle.walks.proofs.ResumedLaws.{resumed_refused, one_field, weight-length}
use Rattle.walks.proofs.ShownLaws.{shown_depth, shown_kept}

-- a term without inner terms has no tensors
no_arities : (t : Term) (xs : List ℕ) → (tag_of t ≡ 18 → ⊥) → (tag_of t ≡ 19 → ⊥) → (tag_of t ≡ 20 → ⊥) → arities t xs ≡ xs
unfolding arities tag_of
no_arities (atomic a) xs p q r = refl
no_arities id xs p q r = refl
no_arities (label l t) xs p q r = absurd (p refl)
no_arities (sequence t u) xs p q r = absurd (q refl)
no_arities (tensor t u) xs p q r = absurd (r refl)
no_arities empty xs p q r = refl
no_arities (alternation t u) xs p q r = refl
no_arities (assert γ) xs p q r = refl
no_arities (defined n) xs p q r = refl

module _ {C : Type 0} (act : Act C) (x : Aim C) (A : List C) (s w : List ℕ) (n : Next) where
  -- ---- the term inside the labels begins in its place

  bare_with : (t : Term) (f : List Waiting) → label_count_wrong t n.count ≡ false → BeginsWith act x A s w n t f → BeginsWith act x A s w (placed n (bare_at n.at t)) (bare t) f
  bare_with t f e b =
      let z = same_end t n.at in
      record {
        same = b.same ∙ ap (resumed act f) (bare_walks act A _ n.count (length_values w n.top n.count) t n.at e);
        stands = bare_stands s t n.at b.stands;
        ahead = subst (Ahead w n.arity) (sym (same_arities t (later f))) b.ahead;
        room = omega (arith, b.room, same_uses t);
        below = b.below;
        shown = subst (λ (i : ℕ). Shown s w n.frames i n.low (n.top + n.count * 2) f) (sym z) b.shown;
        counted = omega (arith, b.counted, same_uses t);
        depth = omega (arith, b.depth, fewer_fields_lem t);
      }

  pub bare-begins : (b : Begins act x A s w n) (at : ℕ) → at ≡ bare_at n.at b.0 → label_count_wrong b.0 n.count ≡ false → Begins act x A s w (placed n at)
  bare-begins b at e c = (bare b.0, b.1, subst (λ (i : ℕ). BeginsWith act x A s w (placed n i) (bare b.0) b.1) (sym e) (bare_with b.0 b.1 c b.2))

  pub bare_no_label : (b : Begins act x A s w n) (at : ℕ) → at ≡ bare_at n.at b.0 → get_or s at 0 ≡ 18 → ⊥
  bare_no_label b at e h =
      bare_tag b.0 (sym (known s (bare_at n.at b.0) (bare b.0) (bare_stands s b.0 n.at b.2.stands)).tag_is ∙ ap (λ (i : ℕ). get_or s i 0) (sym e) ∙ h)

  refused_with : (t : Term) (f : List Waiting) (c : Cause) (p : ℕ) → p ≤ length s → BeginsWith act x A s w n t f → walk_of act t n.at A (values_at w n.top n.count) ≡ refused c p → (w' : List ℕ) (at : ℕ) → Turned act x A s w' at (refused_at c p)
  unfolding Turned
  refused_with t f c p l b e w' at = (b.same ∙ ap (resumed act f) e ∙ resumed_refused act f c p, l)

  pub label_stops : (b : Begins act x A s w n) → label_count_wrong b.0 n.count ≡ true → (at : ℕ) → Steps act x A s w w at (refused_at GoalCountWrong n.at)
  label_stops b e at = record {
    turned = refused_with b.0 b.1 GoalCountWrong n.at (omega (arith, (known s n.at b.0 b.2.stands).inside)) b.2 (label_refused act A _ n.count (length_values w n.top n.count) b.0 n.at e) w at;
    kept = kept_same w _ _;
  }

  -- ---- a term that acts and ends

  acts : (t : Term) (at : ℕ) (ns : List ℕ) → (tag_of t ≡ 18 → ⊥) → (tag_of t ≡ 19 → ⊥) → (tag_of t ≡ 20 → ⊥) → walk_of act t at A ns ≡ act t at A ns
  unfolding walk_of tag_of
  acts (atomic a) at ns p q r = refl
  acts id at ns p q r = refl
  acts (label l t) at ns p q r = absurd (p refl)
  acts (sequence t u) at ns p q r = absurd (q refl)
  acts (tensor t u) at ns p q r = absurd (r refl)
  acts empty at ns p q r = refl
  acts (alternation t u) at ns p q r = refl
  acts (assert γ) at ns p q r = refl
  acts (defined m) at ns p q r = refl

  leaf_acts : (t : Term) (ns : List ℕ) → Stands s n.at t → Leaf s n.at → walk_of act t n.at A ns ≡ act t n.at A ns
  leaf_acts t ns st l = let e = (known s n.at t st).tag_is in acts t n.at ns (λ h. l.0 (e ∙ h)) (λ h. l.1 (e ∙ h)) (λ h. l.2 (e ∙ h))

  leaf-arities : (t : Term) (xs : List ℕ) → Stands s n.at t → Leaf s n.at → arities t xs ≡ xs
  leaf-arities t xs st l = let e = (known s n.at t st).tag_is in no_arities t xs (λ h. l.0 (e ∙ h)) (λ h. l.1 (e ∙ h)) (λ h. l.2 (e ∙ h))

  pub leaf_refused : (b : Begins act x A s w n) → Leaf s n.at → (c : Cause) (p : ℕ) → p ≤ length s → act b.0 n.at A (values_at w n.top n.count) ≡ refused c p → (w' : List ℕ) (at : ℕ) → Turned act x A s w' at (refused_at c p)
  leaf_refused b l c p h e w' at = refused_with b.0 b.1 c p h b.2 (leaf_acts b.0 _ b.2.stands l ∙ e) w' at

  gave_with : (t : Term) (f : List Waiting) → BeginsWith act x A s w n t f → Leaf s n.at → (A' : List C) (w' : List ℕ) (k u : ℕ) → Acted act A A' w w' n t k u → (at : ℕ) → n.at + size t ≡ at
      → GaveWith act x A' s w' at n.low k (n.top + n.count * 2) n.frames n.arity (n.uses + u) f
  gave_with t f b l A' w' k u a at e = record {
    same = b.same ∙ ap (resumed act f) (leaf_acts t _ b.stands l ∙ a.comes);
    ahead = ahead_kept w w' _ _ n.arity (later f) a.kept (inl (omega (arith, b.below))) (subst (Ahead w n.arity) (leaf-arities t (later f) b.stands l) b.ahead);
    room = omega (arith, b.room, a.used_is, a.few);
    below = b.below;
    shown = subst (λ (i : ℕ). Shown s w' n.frames i n.low (n.top + n.count * 2) f) e
        (shown_kept s w w' n.low (n.top + n.count * 2) a.kept f n.frames (n.at + size t) n.low (n.top + n.count * 2) (inl (omega arith, omega arith, b.below)) b.shown);
    counted = omega (arith, b.counted, a.used_is);
    depth = omega (arith, b.depth, one_field t);
  }

  -- the term gave, and its uses are few
  pub leaf_gave : (b : Begins act x A s w n) → Leaf s n.at → (A' : List C) (w' : List ℕ) (k u : ℕ) → Acted act A A' w w' n b.0 k u → (at : ℕ) → n.at + size b.0 ≡ at
      → Gave act x A' s w' at n.low k (n.top + n.count * 2) n.frames n.arity (n.uses + u) × (n.uses + u ≤ most_bytes)
  leaf_gave b l A' w' k u a at e = ((b.1, gave_with b.0 b.1 b.2 l A' w' k u a at e), omega (arith, b.2.counted, x.few, a.used_is))

  -- ---- a write behind the arities leaves where the walk stands

  pub with_behind : (t : Term) (f : List Waiting) → BeginsWith act x A s w n t f → (w' : List ℕ) (a c : ℕ) → Kept w w' a c → arities_end ≤ a → BeginsWith act x A s w' n t f
  with_behind t f q w' a c k h =
      let d = shown_depth s w f _ _ _ _ q.shown in
      record {
        same = q.same ∙ ap (λ (g : List ℕ). resumed act f (walk_of act t n.at A g)) (sym (values_below w w' a c n.top n.count k (omega (arith, q.below))));
        stands = q.stands;
        ahead = ahead_kept w w' a c n.arity _ k (inr h) q.ahead;
        room = q.room;
        below = q.below;
        shown = shown_kept s w w' a c k f n.frames _ _ _ (inr (omega (arith, d, weight-length f, q.depth, one_field t))) q.shown;
        counted = q.counted;
        depth = q.depth;
      }

  pub begins-behind : Begins act x A s w n → (w' : List ℕ) (a c : ℕ) → Kept w w' a c → arities_end ≤ a → Begins act x A s w' n
  begins-behind b w' a c k h = (b.0, b.1, with_behind b.0 b.1 b.2 w' a c k h)

-- ---- a step of several parts

module _ {C : Type 0} (act : Act C) (x : Aim C) (A : List C) (s : List ℕ) where
  -- the next term is behind an earlier place too
  pub turned-later : (w : List ℕ) (at at' : ℕ) (r : std.Result Turn Refusal) → at' ≤ at → Turned act x A s w at r → Turned act x A s w at' r
  unfolding Turned
  turned-later w at at' (Err e) h v = v
  turned-later w at at' (Ok (U.Begin m)) h v = (v.0, omega (arith, v.1))
  turned-later w at at' (Ok (U.Ended e)) h v = v

  -- what was written before, on the stacks and the frames too
  pub steps_after : (w w' w'' : List ℕ) (at at' : ℕ) (r : std.Result Turn Refusal) → at' ≤ at → Kept w w' 0 frames_end → Steps act x A s w' w'' at r → Steps act x A s w w'' at' r
  steps_after w w' w'' at at' r h k z = record {
    turned = turned-later w'' at at' r h z.turned;
    kept = kept_both w w' w'' _ _ _ _ _ _ k z.kept (omega arith) (omega arith) (omega arith) (omega arith);
  }

-- ---- the walk's start

abbrev pub aim_of : {C : Type 0} → Act C → (t : Term) → (at : ℕ) → List C → List ℕ → fields t ≤ most_term_fields → Aim C
aim_of act t at A ns h = record { result = walk_of act t at A ns; uses = atomics t; few = omega (arith, h, atomics-fields t) }

pub begun : {C : Type 0} (act : Act C) (A : List C) (s w : List ℕ) (t : Term) (at count : ℕ) (h : fields t ≤ most_term_fields) → Stands s at t → Ahead w frames_end (arities t []) → count ≤ most_goals
    → Begins act (aim_of act t at A (values_at w (stack_end - count * 2) count) h) A s w (start_of at count)
unfolding resumed pending later weight Shown
begun act A s w t at count h st y c =
    let a = atomics-fields t in (
      t,
      [],
      record {
        same = refl;
        stands = st;
        ahead = y;
        room = omega (arith, a);
        below = omega arith;
        shown = (refl, refl, omega arith);
        counted = omega arith;
        depth = omega (arith, h);
      },
    )
