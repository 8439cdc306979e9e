-- `plan::premises_of` meets its contract: by what the look-up of its rule finds.
-- Assumes nothing.
use Rattle.std.proofs.Common.{◌≡◌, ◌∙◌, arith}
use Rattle.std.proofs.lemmas.Grind.{common_steps}
use Rattle.writer.proofs.FoundLaws.{count_of, either, found_count, few_count}
use Rattle.writer.proofs.plan.premises_of.Goals as goal

pub returns : goal.returns
returns c =
    let f = c.find_rule.ensures in
    let count : c.map_or.result ≡ count_of c.find_rule.result = either c.find_rule.result (λ e. grind (arith, common_steps)) (λ r e. grind (arith, common_steps)) in
    record { value = λ T st. count ∙ found_count T _ _ _ _ _ _ (f.found T st) c.value_at-name.ensures c.value_at-goal.ensures; few = omega (arith, count, few_count _ _ f.inside) }
