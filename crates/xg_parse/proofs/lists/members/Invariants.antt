use Rattle.std.proofs.Common.{◌≡◌, length}
use Rattle.xg_parse.specs.Reading.{read_rule}
use Rattle.xg_parse.specs.Grammar.{members, next_members}
use Rattle.xg_parse.specs.Gives.{cursor_place}
use Rattle.xg_parse.proofs.LoopLaws.{with_front}
use Rattle.xg_parse.proofs.lists.members.Given as goal

abbrev pub invariant-each : goal.invariant-each
invariant-each l = with_front l.items.items (read_rule next_members (cursor_place l.place)) ≡ read_rule members
    (cursor_place l.cursor)

abbrev pub decreases-each : goal.decreases-each
decreases-each l = length l.place.rest.now
