use Rattle.std.proofs.Common.{rules, arith, ◌-◌, ◌+◌, ◌≡◌, suc, length}
use Rattle.py_meaning.specs.Scopes.{is_inside}
use Rattle.reform_homes.specs.Gaining.{passed}
use Rattle.reform_homes.proofs.Standing.{rest_start, passed_turn, passed_home, passed_end}
use Rattle.reform_homes.proofs.frees.spread.Goals as goal

pub loop-turn-init : goal.loop-turn-init
loop-turn-init c =
    let k : length c.args.scopes.now - 0 ≡ length c.args.scopes.now = omega arith in
    rest_start c.args.scopes.now c.args.scope c.args.names.now c.args.lists.now.items (length c.args.scopes.now - 0) k

pub loop-turn-preserved : goal.loop-turn-preserved
loop-turn-preserved c =
    let k : length c.args.scopes.now - c.loop-turn._turn ≡ suc (length c.args.scopes.now - (c.loop-turn._turn + 1)) = omega arith in
    passed_turn c.args.scopes.now c.args.scope c.args.names.now (length c.args.scopes.now - c.loop-turn._turn) (length c.args.scopes.now - (c.loop-turn._turn + 1)) c.loop-turn.at c.around-at.result
    c.args.lists.now.items c.loop-turn.lists.items c.pass.new.lists.items (λ a. passed c.args.scope c.args.names.now a (is_inside c.args.scopes.now a c.args.scope)) k (search rules) c.around-at.ensures c.loop-turn.invariant c.in_ok-pass.ensures

pub returns-then-at-eq0 : goal.returns-then-at-eq0
returns-then-at-eq0 c =
    passed_home c.args.scopes.now c.args.scope c.args.names.now (length c.args.scopes.now - c.loop-turn._turn) c.loop-turn.at c.args.lists.now.items c.loop-turn.lists.items (λ a. passed c.args.scope c.args.names.now a (is_inside c.args.scopes.now a c.args.scope))
    (search rules) c.loop-turn.invariant

pub returns : goal.returns
returns c =
    let k : length c.args.scopes.now - c.loop-turn._turn ≡ 0 = omega arith in
    passed_end c.args.scopes.now c.args.scope c.args.names.now (length c.args.scopes.now - c.loop-turn._turn) c.loop-turn.at c.args.lists.now.items c.loop-turn.lists.items (λ a. passed c.args.scope c.args.names.now a (is_inside c.args.scopes.now a c.args.scope)) k c.loop-turn.invariant
