use Rattle.std.proofs.Common.{rules, ◌≡◌, ◌∙◌, ◌∷◌, sym, true, false, []}
use Rattle.std.proofs.lemmas.Iterator.Adapters.{YieldsList-from_vec}
use Rattle.std.proofs.lemmas.Iterator.Consumers.{YieldsList-end}
use Rattle.std.specs.Prelude.{is_some}
use Rattle.reform_walk.specs.Made.{aim_of}
use Rattle.reform_walk.proofs.Assembled.{same_aims, next_aim, none_now, behind_next, star_now, before_next, last_each, last_starred}
use Rattle.reform_walk.proofs.lists.assembled.Goals as goal

pub loop-aim-preserved-in_ok-push : goal.loop-aim-preserved-in_ok-push
loop-aim-preserved-in_ok-push c =
    let l = c.loop-aim in
    let some : is_some l.star ≡ true = search rules in
    record {
      all = λ xs. next_aim c.args.line l.yielded c.in-Some.aim xs ∙ l.invariant.all (aim_of c.in-Some.aim ∷ xs) ∙ behind_next c.args.line l.before.items l.behind.items c.push.new.self.items l.star c.in-Some.aim xs some c.in_ok-push.ensures.items;
      none = none_now l.star c.push.new.self.items some;
    }

pub loop-aim-preserved-then-starred : goal.loop-aim-preserved-then-starred
loop-aim-preserved-then-starred c =
    let l = c.loop-aim in
    let some : is_some l.star ≡ false = search rules in
    record {
      all = λ xs. next_aim c.args.line l.yielded c.in-Some.aim xs ∙ l.invariant.all (aim_of c.in-Some.aim ∷ xs) ∙ star_now c.args.line l.before.items l.behind.items l.star c.in_ok-new.field-0 c.in-Some.aim xs some (search rules) (search rules) l.invariant.none;
      none = λ e. search rules;
    }

pub loop-aim-preserved : goal.loop-aim-preserved
loop-aim-preserved c =
    let l = c.loop-aim in
    let some : is_some l.star ≡ false = search rules in
    record {
      all = λ xs. next_aim c.args.line l.yielded c.in-Some.aim xs ∙ l.invariant.all (aim_of c.in-Some.aim ∷ xs) ∙ before_next c.args.line l.before.items l.behind.items c.push-else-starred.new.self.items l.star c.in-Some.aim xs some (search rules) c.in_ok-push-2.ensures.items;
      none = l.invariant.none;
    }

pub returns-in-None-star : goal.returns-in-None-star
returns-in-None-star c =
    let l = c.loop-aim in
    let t = YieldsList-end (YieldsList-from_vec c.args.aims.items (search rules) (search rules)) l.yielded _ l.yielded_by c.next.result c.next.new.self c.in-None.is c.next.ensures.steps in
    last_each c.args.line l.yielded c.args.aims.items l.before l.behind.items l.star (sym (same_aims l.yielded) ∙ t.0) c.in-None-star.is (l.invariant.all [])

pub returns-in-Some-star : goal.returns-in-Some-star
returns-in-Some-star c =
    let l = c.loop-aim in
    let t = YieldsList-end (YieldsList-from_vec c.args.aims.items (search rules) (search rules)) l.yielded _ l.yielded_by c.next.result c.next.new.self c.in-None.is c.next.ensures.steps in
    last_starred c.args.line l.yielded c.args.aims.items l.before l.behind l.star c.in-Some-star.star (sym (same_aims l.yielded) ∙ t.0) c.in-Some-star.is (l.invariant.all [])
