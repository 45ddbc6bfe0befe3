-- The first entry that is not 0 is the first occupied closed region's.
use Rattle.std.proofs.Common.{ℕ, ◌≡◌, cond, map, ◌∙◌, rules, tests}
use Rattle.std.proofs.lemmas.Iterator.{YieldsList-from_slice, YieldsList-from_zip, YieldsList-from_map, first_from_find}
use Rattle.std.proofs.lemmas.Iterator.Consumers.{YieldsList-at}
use Rattle.std.specs.List.{zip}
use Rattle.rules.specs.Urgency.{is_open}
use Rattle.regions.proofs.Holders.{held_found, closed_pairs}
use Rattle.regions.proofs.holder.closed_held.Goals as goal

pub returns : goal.returns
returns c =
    let t = c.args.f.now in
    let closed = closed_pairs t.opened t.holder (search rules) (search rules) in
    let first = held_found (map (λ (z : ℕ × ℕ). cond (is_open z.0) 0 z.1) (zip t.opened t.holder)) c.find.result
    (first_from_find c.find.new.self _ _ (λ h. h ≡ 0 → ⊥) (λ h. h ≡ 0) c.find.ensures.ran
    (YieldsList-from_map _ (λ (z : ℕ × ℕ). cond (is_open z.0) 0 z.1)
    (YieldsList-at c.map.ensures.source (YieldsList-from_zip (YieldsList-from_slice t.opened cc) (YieldsList-from_slice t.holder cc))) c.map.ensures.closure
    (λ x r q k. search (rules, tests)))
    (λ x q k. search (rules, tests)) (λ x q k. search (rules, tests))) in
    c.unwrap_or.ensures ∙ rw closed at first
