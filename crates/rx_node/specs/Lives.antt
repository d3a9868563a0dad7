-- The life of a call as the code keeps it, and as the rules have it. Public clauses cite this module.
use Rattle.std.specs.Prelude.{Bool, true, false, Some, None}
use Rattle.rx_model.specs.declared.answers.End.{End}
use Rattle.rx_model.specs.declared.answers.End.TheVariants as ends
use Rattle.rx_rules.specs.After.{is_zero}
use Rattle.rx_rules.specs.Life.{Life, after_accept, after_acks, after_cancel, after_code, after_end, after_finish}
use Rattle.rx_rules.specs.Life.{after_gone, after_later, after_silence}
use Rattle.rx_rules.specs.Life as rules
use Rattle.rx_node.specs.declared.life.Life.{Life as CodeLife}
use Rattle.rx_node.specs.declared.life.Life.TheVariants as lives
use Rattle.rx_node.specs.declared.life.Turn.{Turn}
use Rattle.rx_node.specs.declared.life.Turn.TheVariants as turns

-- the life that the rules have, variant by variant
abbrev pub life_of : CodeLife → Life
life_of lives.Calling = rules.Calling
life_of (lives.Ended end) = rules.Ended end
life_of lives.Waiting = rules.Waiting
life_of lives.Accepted = rules.Accepted
life_of lives.Finished = rules.Finished
life_of (lives.Broken code) = rules.Broken code
life_of (lives.Over code) = rules.Over code

-- how a call that ended did so, as its seat has it, by its life: a server's that ended without a code ended well
abbrev pub end_of : Life → End
end_of (rules.Ended end) = end
end_of (rules.Over (Some code)) = ends.Abort code
end_of _ = ends.Ok

-- the life of a server's call that ended so
abbrev pub served_life : End → Life
served_life (ends.Abort code) = rules.Over (Some code)
served_life _ = rules.Over None

-- the life of a call that ended so, by the kind of its node
abbrev pub ended_life : Bool → End → Life
ended_life true end = rules.Ended end
ended_life false end = served_life end

-- the life behind a turn
abbrev pub after_turn : Turn → Life → Life
after_turn (turns.Code code) life = after_code code life
after_turn (turns.Silence silence) life = after_silence silence life
after_turn turns.Later life = after_later life
after_turn (turns.Acks all) life = after_acks all life
after_turn turns.Accept life = after_accept life
after_turn (turns.Finish code) life = after_finish (is_zero code) code life
after_turn turns.Gone life = after_gone life
after_turn (turns.End end) life = after_end end life
after_turn (turns.Cancel code) life = after_cancel code life

-- whether a call at its client, or at its server, can have this life
abbrev pub is_of : Bool → Life → Bool
is_of true rules.Calling = true
is_of true (rules.Ended end) = true
is_of true _ = false
is_of false rules.Calling = false
is_of false (rules.Ended end) = false
is_of false _ = true
