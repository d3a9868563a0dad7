use Rattle.std.proofs.Common.{◌+◌, get_or, take, arith}
use Rattle.xg_check.specs.Constants.{first, members_from}
use Rattle.xg_check.specs.Views.{constant_of, constants_of}
use Rattle.xg_check.proofs.ListLaws.{member_at, members_more, push_behind}
use Rattle.xg_check.proofs.constants.add_members.Goals as goal

pub loop-at-preserved : goal.loop-at-preserved
loop-at-preserved c =
    let ms = c.args.members.now in
    let i = c.loop-at.at in
    let m = c.index-members-at.result in
    push_behind constant_of c.push.new.self.items c.loop-at.list.items _ (constants_of c.args.list.now.items)
    (members_from first (take i ms)) (members_from first (take (i + 1) ms)) (member_at first i (get_or ms i m))
    c.in_ok-push.ensures.items c.loop-at.invariant (members_more first ms i m (omega arith))
    (cc (c.as_str.ensures, c.member_given.ensures, c.index-members-at.is))
