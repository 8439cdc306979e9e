-- A sequence or a tensor begins: it waits for its left term, which is next.
-- Assumes nothing.
use Rattle.std.specs.Prelude.{Ok}
use mathlib.Core.Path.{◌≡◌, refl, sym, subst, ap, ap₂, ◌∙◌}
use mathlib.Core.Logic.{inl, inr}
use mathlib.Core.List.{List, ◌∷◌}
use Prim.Native.Nat.{ℕ, ◌+◌, ◌*◌, ◌-◌, ◌≤◌, ◌<◌}
use native.Mathlib.Omega.{arith}
use lib.ListN.{length, get_or}
use borrow.Author.Tests.{lt-ltb, le-ltb}
use Rattle.words.specs.Word.{word, put_word}
use Rattle.words.specs.Kept.{Kept}
use Rattle.words.proofs.WordLaws.{length-put_word, word_same, word_other}
use Rattle.words.proofs.KeptLaws.{kept_put, kept_same, kept_both}
use Rattle.format.specs.Limits.{most_bytes}
use Rattle.format.specs.declared.refusals.Cause.TheVariants.{GoalsTooFew}
use Rattle.format.specs.Results.{and_then, refused_at}
use Rattle.format.specs.Terms.{Term, sequence, tensor, size, fields}
use Rattle.format.specs.Standing.{Stands}
use Rattle.format.proofs.StandsLaws.{known}
use Rattle.format.proofs.ByTag.{by_tag}
use Rattle.hitac.specs.Hiproofs.{input_arity, atomics}
use Rattle.input_arities.specs.Layout.{stack_end, frames_end, arities_end}
use Rattle.input_arities.specs.Arities.{arities, Ahead}
use Rattle.input_arities.proofs.ArityLaws.{ahead_kept, ahead_first}
use Rattle.walks.specs.declared.state.Next.{Next}
use Rattle.walks.specs.declared.state.Turn.TheVariants as U
use Rattle.walks.specs.Values.{values_at}
use Rattle.walks.specs.Walks.{Act, joined_values, walk_of}
use Rattle.walks.specs.Waiting.{Waiting, sequence_left, tensor_left, resumed, pending, later, weight}
use Rattle.walks.specs.Shows.{put_frame, Framed, Shown}
use Rattle.walks.specs.Loops.{Aim, Roomy, BeginsWith, Begins, Turned, Steps}
use Rattle.walks.proofs.ValueLaws.{length_values, take_values, drop_values, values_below}
use Rattle.walks.proofs.ResumedLaws.{resumed_refused, one_field, weight-length}
use Rattle.walks.proofs.ShownLaws.{shown_depth, shown_kept}

-- a frame is read back where it was stored, and no other place changes
module _ (w : List ℕ) (at q v : ℕ) where
  kept_frame : Kept w (put_frame w at q v) at (at + 4)
  unfolding put_frame
  kept_frame =
      kept_both w (put_word w at q) _ at (at + 4) at (at + 4) at (at + 4) (kept_put w at q at (at + 4) (omega arith) (omega arith)) (kept_put _ (at + 2) v at (at + 4) (omega arith) (omega arith)) (omega arith) (omega arith) (omega arith) (omega arith)

  frame_place : at + 3 < length w → word (put_frame w at q v) at ≡ q
  unfolding put_frame
  frame_place h = word_other _ (at + 2) v at (inl (omega arith)) ∙ word_same w at q (omega arith)

  frame_value : at + 3 < length w → word (put_frame w at q v) (at + 2) ≡ v
  unfolding put_frame
  frame_value h = word_same _ (at + 2) v (omega (arith, length-put_word w at q))

-- where the left term begins, on so many values, with the next arity at a place
abbrev left_of : Next → (count arity : ℕ) → Next
left_of n c a = record { at = n.at + 3; count = c; low = n.low; top = n.top; frames = n.frames + 4; arity = a; uses = n.uses }

-- the bounds of a frame's place and values, where a term of three fields or more is to begin
pub record Fits (s w : List ℕ) (n : Next) : Type 0 where
  pub frame : n.frames + 4 ≤ frames_end
  pub frame_above : stack_end ≤ n.frames
  pub place : n.at + 9 ≤ length s
  pub ends : n.top + n.count * 2 ≤ stack_end
  pub small : length s ≤ most_bytes
  pub space : arities_end ≤ length w

module _ {C : Type 0} (act : Act C) (x : Aim C) (A : List C) (s w : List ℕ) (n : Next) (z : Roomy s w) where
  abbrev B : Term → List Waiting → Type 0
  B t f = BeginsWith act x A s w n t f

  fits : (t : Term) (f : List Waiting) → B t f → 3 ≤ fields t → 9 ≤ size t → Fits s w n
  fits t f b h g =
      let d = shown_depth s w f _ _ _ _ b.shown in
      record {
        frame = omega (arith, d, weight-length f, b.depth);
        frame_above = omega (arith, d);
        place = omega (arith, (known s n.at t b.stands).inside);
        ends = b.below;
        small = z.file;
        space = z.space;
      }

  -- what both forms have in common: the frame is stored
  module _ (w' : List ℕ) (f : List Waiting) (fit : Fits s w n) (v : ℕ) (stored : w' ≡ put_frame w n.frames n.at v) where
    kept : Kept w w' n.frames (n.frames + 4)
    kept = subst (λ (l : List ℕ). Kept w l n.frames (n.frames + 4)) (sym stored) (kept_frame w n.frames n.at v)

    inside : n.frames + 3 < length w
    inside = omega (arith, fit.frame, fit.space)

    value_there : word w' (n.frames + 2) ≡ v
    value_there = ap (λ (l : List ℕ). word l (n.frames + 2)) stored ∙ frame_value w n.frames n.at v inside

    framed : (tag : ℕ) → get_or s n.at 0 ≡ tag → Framed s w' (n.frames + 4) n.frames n.at tag
    framed tag e = record {
      next = refl;
      above = fit.frame_above;
      place_is = ap (λ (l : List ℕ). word l n.frames) stored ∙ frame_place w n.frames n.at v inside;
      inside = omega (arith, fit.place);
      tag_is = e;
    }

    values_kept : (at c : ℕ) → at + c * 2 ≤ stack_end → values_at w' at c ≡ values_at w at c
    values_kept at c h = values_below w w' _ _ at c kept (omega (arith, fit.frame_above))

    -- the terms that waited before, from the end of the right term on
    outer : (at low end : ℕ) → Shown s w n.frames at low end f → (at' : ℕ) → at ≡ at' → Shown s w' n.frames at' low end f
    outer at low end sh at' e =
        subst (λ (i : ℕ). Shown s w' n.frames i low end f) e
        (shown_kept s w w' n.frames (n.frames + 4) kept f n.frames at low end (inr (omega arith)) sh)

    ahead_still : (at : ℕ) (xs : List ℕ) → Ahead w at xs → Ahead w' at xs
    ahead_still at xs y = ahead_kept w w' _ _ at xs kept (inl fit.frame) y

    wide : Kept w w' 0 frames_end
    wide = kept_both w w' w' n.frames (n.frames + 4) 0 frames_end 0 frames_end kept (kept_same w' _ _) (omega arith) (omega arith) fit.frame (omega arith)

    sequence_begun : (a c : Term) → get_or s n.at 0 ≡ 19 → B (sequence a c) f → BeginsWith act x A s w' (left_of n n.count n.arity) a (sequence_left c (n.at + 3 + size a) ∷ f)
    unfolding walk_of resumed Stands arities size atomics pending later weight fields Shown
    sequence_begun a c tag b = record {
      same = b.same ∙ ap (λ (g : List ℕ). resumed act f (walk_of act (sequence a c) n.at A g)) (sym (values_kept n.top n.count fit.ends));
      stands = b.stands.1;
      ahead = ahead_still n.arity (arities a (arities c (later f))) b.ahead;
      room = omega (arith, b.room);
      below = b.below;
      shown = (n.frames, n.at, framed 19 tag, refl, b.stands.2, outer _ _ _ b.shown (n.at + 3 + size a + size c) (omega arith));
      counted = omega (arith, b.counted);
      depth = omega (arith, b.depth);
    }

    -- a tensor whose left term has its share of the values
    module _ (share : ℕ) (covered : share ≤ n.count) where
      split : (a c : Term) (at : ℕ) → share ≡ input_arity a
          → walk_of act (tensor a c) at A (values_at w n.top n.count) ≡ and_then (walk_of act a (at + 3) A (values_at w n.top share)) (λ o. and_then (walk_of act c (at + 3 + size a) o.made (values_at w (n.top + share * 2) (n.count - share))) (joined_values at o.values))
      unfolding walk_of
      split a c at e = rw (length_values w n.top n.count, ← e, le-ltb n.count share covered, take_values w n.top share n.count covered, drop_values w n.top share n.count covered)

      tensor_begun : (a c : Term) → get_or s n.at 0 ≡ 20 → share ≡ word w n.arity → v ≡ n.top + n.count * 2 → B (tensor a c) f
          → BeginsWith act x A s w' (left_of n share (n.arity + 2)) a (tensor_left n.at c (n.at + 3 + size a) (values_at w' (n.top + share * 2) (n.count - share)) ∷ f)
      unfolding resumed Stands arities size atomics pending later weight fields Shown
      tensor_begun a c tag e end_is b =
          let y = ahead_first w n.arity (input_arity a) (arities a (arities c (later f))) b.ahead in
          record {
            same =
                b.same ∙ ap (resumed act f) (split a c n.at (e ∙ y.0))
                ∙ ap₂ (λ (g h : List ℕ). resumed act f (and_then (walk_of act a (n.at + 3) A g) (λ o. and_then (walk_of act c (n.at + 3 + size a) o.made h) (joined_values n.at o.values))))
                (sym (values_kept n.top share (omega (arith, fit.ends)))) (sym (values_kept (n.top + share * 2) (n.count - share) (omega (arith, fit.ends))));
            stands = b.stands.1;
            ahead = ahead_still (n.arity + 2) (arities a (arities c (later f))) y.1;
            room = omega (arith, b.room);
            below = omega (arith, b.below);
            shown = (
              n.frames,
              n.top + n.count * 2,
              n.count - share,
              framed 20 tag,
              record { value_is = value_there ∙ end_is; ends = omega arith; below = b.below; rest = refl },
              refl,
              b.stands.2,
              outer _ _ _ b.shown (n.at + 3 + size a + size c) (omega arith),
            );
            counted = omega (arith, b.counted);
            depth = omega (arith, b.depth);
          }

  -- the same by the tag
  two_fields : (a c : Term) → (3 ≤ 1 + fields a + fields c)
  two_fields a c = omega (arith, one_field a, one_field c)

  pub sequence_fits : (b : Begins act x A s w n) → get_or s n.at 0 ≡ 19 → Fits s w n
  unfolding fields size
  sequence_fits b e = by_tag s n.at (λ t. B t b.1 → Fits s w n) 19 (λ a c y q. fits (sequence a c) b.1 q (two_fields a c) (omega (arith, y.first_size, y.second_size))) e b.0 b.2.stands b.2

  pub tensor_fits : (b : Begins act x A s w n) → get_or s n.at 0 ≡ 20 → Fits s w n × (n.arity + 2 ≤ arities_end)
  unfolding fields size arities
  tensor_fits b e = by_tag s n.at (λ t. B t b.1 → Fits s w n × (n.arity + 2 ≤ arities_end)) 20
      (λ a c y q. (fits (tensor a c) b.1 q (two_fields a c) (omega (arith, y.first_size, y.second_size)), (ahead_first w n.arity (input_arity a) (arities a (arities c (later b.1))) q.ahead).2)) e b.0 b.2.stands b.2

  pub sequence_pushed : (b : Begins act x A s w n) → get_or s n.at 0 ≡ 19 → (w' : List ℕ) (v : ℕ) → w' ≡ put_frame w n.frames n.at v → Steps act x A s w w' (n.at + 1) (Ok (U.Begin (left_of n n.count n.arity)))
  unfolding Turned
  sequence_pushed b e w' v st =
      let fit = sequence_fits b e in
      record {
        turned = by_tag s n.at (λ t. B t b.1 → Turned act x A s w' (n.at + 1) (Ok (U.Begin (left_of n n.count n.arity)))) 19
            (λ a c y q. ((a, sequence_left c (n.at + 3 + size a) ∷ b.1, sequence_begun w' b.1 fit v st a c e q), omega arith)) e b.0 b.2.stands b.2;
        kept = wide w' b.1 fit v st;
      }

  module _ (b : Begins act x A s w n) (e : get_or s n.at 0 ≡ 20) (share : ℕ) (is : share ≡ word w n.arity) where
    pub tensor_pushed : share ≤ n.count → (w' : List ℕ) → w' ≡ put_frame w n.frames n.at (n.top + n.count * 2) → Steps act x A s w w' (n.at + 1) (Ok (U.Begin (left_of n share (n.arity + 2))))
    unfolding Turned
    tensor_pushed cov w' st =
        let fit = (tensor_fits b e).0 in
        record {
          turned = by_tag s n.at (λ t. B t b.1 → Turned act x A s w' (n.at + 1) (Ok (U.Begin (left_of n share (n.arity + 2))))) 20
              (λ a c y q. ((a, tensor_left n.at c (n.at + 3 + size a) (values_at w' (n.top + share * 2) (n.count - share)) ∷ b.1, tensor_begun w' b.1 fit _ st share cov a c e is refl q), omega arith)) e b.0 b.2.stands b.2;
          kept = wide w' b.1 fit _ st;
        }

    few : (a c : Term) (f : List Waiting) → n.count < share → B (tensor a c) f → Turned act x A s w (n.at + 1) (refused_at GoalsTooFew n.at)
    unfolding Turned walk_of arities
    few a c f h q =
        let y = ahead_first w n.arity (input_arity a) (arities a (arities c (later f))) q.ahead in (
          q.same ∙ ap (resumed act f) (rw (length_values w n.top n.count, ← (is ∙ y.0), lt-ltb n.count share h)) ∙ resumed_refused act f GoalsTooFew n.at,
          omega (arith, (known s n.at (tensor a c) q.stands).inside),
        )

    pub tensor_few : n.count < share → Steps act x A s w w (n.at + 1) (refused_at GoalsTooFew n.at)
    tensor_few h = record {
      turned = by_tag s n.at (λ t. B t b.1 → Turned act x A s w (n.at + 1) (refused_at GoalsTooFew n.at)) 20 (λ a c y q. few a c b.1 h q) e b.0 b.2.stands b.2;
      kept = kept_same w _ _;
    }
