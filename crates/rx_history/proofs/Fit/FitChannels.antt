-- What a channel owes fits its fields, as do the numbers of a connection.
use Rattle.std.proofs.Common.{◌≡◌, ◌<◌, ◌≤◌, ◌^◌, ℕ, ℤ}
use Rattle.std.proofs.Common.{Bool, true, false, Option, Some, None}
use Rattle.std.specs.Prelude.{IfSome}
use Rattle.rx_model.specs.declared.answers.End.TheVariants as ends
use Rattle.rx_model.specs.Body.{Body}
use Rattle.rx_model.specs.Body as bodies
use Rattle.rx_model.specs.Names.{Connection}
use Rattle.rx_model.specs.Spelling.{IsCode}
use Rattle.rx_rules.specs.After.{is_ok_end, owing_abort, owing_ackall, owing_again, served_code}
use Rattle.rx_rules.specs.After.{told_code}
use Rattle.rx_rules.specs.Classes.{FitsAnswer}
use Rattle.rx_rules.specs.Life.{Life, after_code, after_later}
use Rattle.rx_rules.specs.Life as lives
use Rattle.rx_rules.specs.Looks.{ChannelLooks, ConnLooks, Looks, fresh_channel}
use Rattle.rx_rules.specs.Setup.{Setup, Kind, Server, Client}
use Rattle.rx_rules.proofs.EveryLaws.{Every}
use Rattle.rx_history.proofs.Conns.{FitsConnection}
use Rattle.rx_history.proofs.Fit.FitValues.{FitsLife}

-- what a channel owes; one that owes an ABORT has a call
pub record FitsChannel (q : ChannelLooks) : Type 0 where
  pub abort : IfSome q.owed_abort IsCode
  pub busy : IfSome q.owed_busy (λ n. n < 2 ^ 32)
  pub response : IfSome q.owed_response FitsAnswer
  pub numbered : IfSome q.owed_abort (λ code. 1 ≤ q.number)

-- a client's have its own host and epoch
abbrev pub OwnConn : Kind → Connection → Type 0
OwnConn (Client host epoch) x = (x.host ≡ host) × (x.epoch ≡ epoch)
OwnConn (Server service nonces) x = Unit {0}

-- its name, whose it is, and what its channels owe
pub record FitsConn (s : Setup) (r : ConnLooks) : Type 0 where
  pub name : FitsConnection r.connection
  pub own : OwnConn s.kind r.connection
  pub channels : Every FitsChannel r.channels

-- of each connection of a node
abbrev pub ConnsFit : Setup → Looks → Type 0
ConnsFit s l = Every (FitsConn s) l.conns

-- ---- what a channel comes to owe

-- it owes nothing
pub fresh_channel_fits : (n : ℕ) → FitsChannel (fresh_channel n)
fresh_channel_fits n = record { abort = tt; busy = tt; response = tt; numbered = tt }

-- it comes to owe an ABORT
pub abort_fits : (o : Option ℤ) (q : ChannelLooks) → 1 ≤ q.number → IfSome o IsCode → FitsChannel q
    → FitsChannel (owing_abort o q)
abort_fits None q some is f = f
abort_fits (Some code) q some is f = record { abort = is; busy = f.busy; response = f.response; numbered = some }

-- it comes to owe an ACKALL
pub ackall_fits : (owes : Bool) (q : ChannelLooks) → FitsChannel q → FitsChannel (owing_ackall owes q)
ackall_fits true q f = record { abort = f.abort; busy = f.busy; response = f.response; numbered = f.numbered }
ackall_fits false q f = f

served-fits : (life : Life) → FitsLife life → IfSome (served_code life) IsCode
served-fits (lives.Broken code) f = f
served-fits (lives.Over (Some code)) f = f
served-fits (lives.Over None) f = tt
served-fits lives.Calling f = tt
served-fits (lives.Ended end) f = tt
served-fits lives.Waiting f = tt
served-fits lives.Accepted f = tt
served-fits lives.Finished f = tt

told-fits : (life : Life) → FitsLife life → IfSome (told_code life) IsCode
told-fits (lives.Ended (ends.Cancelled code)) f = f
told-fits life f = served-fits life f

-- it comes to owe again what its call ended with
pub again_fits : (body : Body) (life : Life) (q : ChannelLooks) → 1 ≤ q.number → FitsLife life → FitsChannel q
    → FitsChannel (owing_again body life q)
again_fits (bodies.Chunk payload) life q some is f =
    ackall_fits (is_ok_end life) (owing_abort (told_code life) q)
    (abort_fits (told_code life) q some (told-fits life is) f)
again_fits (bodies.Ack a) life q some is f = abort_fits (served_code life) q some (served-fits life is) f
again_fits _ life q some is f = f
