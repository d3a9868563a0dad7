-- What comes at a server of the messages of a call that it doesn't know: the call begins by a DATA among them, or it
-- isn't known behind them, and why.
use Rattle.std.proofs.Common.{◌≡◌, ◌⊎◌, ◌++◌, ℕ, Bool, true, false, List, ◌∷◌, Some, None, refl, inl, inr, ◌∙◌, ap}
use Rattle.std.proofs.Common.{subst}
use Rattle.std.specs.Prelude.{slice_get}
use Rattle.rx_model.specs.declared.event.Event.{Event}
use Rattle.rx_model.specs.declared.event.Noted.{Noted}
use Rattle.rx_model.specs.declared.names.CallName.{CallName}
use Rattle.rx_model.specs.Message.{Message}
use Rattle.rx_model.specs.Names.{channel_of, same_host}
use Rattle.rx_rules.specs.After.{looks}
use Rattle.rx_rules.specs.Judging.{is_data}
use Rattle.rx_rules.specs.Life.{is_active}
use Rattle.rx_rules.specs.Life as lives
use Rattle.rx_rules.specs.Looks.{CallRecord, channel_at}
use Rattle.rx_rules.proofs.EveryLaws.{Every}
use Rattle.rx_history.proofs.Moments.{now-after}
use Rattle.rx_history.specs.Sides.{Node}
use Rattle.rx_law.specs.Worlds.{Datagram}
use Rattle.rx_plan.specs.Stages.{Stage}
use Rattle.rx_closing.specs.Living.{looks_of}
use Rattle.rx_closing.proofs.Frame.{served_in}
use Rattle.rx_closing.proofs.Messages.Delivered.{DeliveredBy, takes_from}
use Rattle.rx_closing.proofs.Messages.FullCame.{CameFull, came_since}
use Rattle.rx_closing.proofs.Messages.Opening.{begun_record}
use Rattle.rx_closing.proofs.Steps.{TakesIn}

-- a datagram leaves the moment of a server
pub now_left : (server : Node) (d : Datagram) (u w : Stage) → slice_get u.nodes 0 ≡ Some server → DeliveredBy d u w
    → (looks_of w 0 server).now ≡ (looks_of u 0 server).now
now_left server d u w there f = by (same_host d.to server.host) refl
  where
    by : (q : Bool) → same_host d.to server.host ≡ q → (looks_of w 0 server).now ≡ (looks_of u 0 server).now
    by true is =
        ap (λ (es : List Event). (looks server.setup es).now) ((f.comes 0 server there).takes is).own
        ∙ now-after server.setup (looks_of u 0 server) (takes_from server.setup d (looks_of u 0 server))
    by false is =
        ap (λ (es : List Event). (looks server.setup es).now) ((f.comes 0 server there).passes is)

-- ---- what comes of what a client gave

module _ (c : CallName) (server : Node) (v : Stage) where
  abbrev pub NoData : Message → Type 0
  NoData m = is_data m.body ≡ false

  -- the server's channel owes a BUSY of the call behind them
  abbrev pub IsTold : Type 0
  IsTold = (channel_at (looks_of v 0 server) (channel_of c)).owed_busy ≡ Some c.number

  pub data BegunAmong (u : Stage) (ms : List Message) : Type 0 where
    begins : (front back : List Message) (piece : Message) → ms ≡ front ++ piece ∷ back → is_data piece.body ≡ true
        → (r : CallRecord) → served_in c server v ≡ Some r
        → (is_active r.life ≡ true → (r.life ≡ lives.Waiting)
        × TakesIn server.setup (looks_of u 0 server).now (begun_record server.setup c (looks_of u 0 server).now).looks
        (piece ∷ back) r.looks) → BegunAmong u ms
    unknown : served_in c server v ≡ None
        → (Every NoData ms ⊎ CameFull server.setup c u.history v.history) ⊎ IsTold → BegunAmong u ms

  -- from a later stage with the same moment
  pub from_later : (u w : Stage) (first : List Noted) → w.history ≡ first ++ u.history
      → (looks_of w 0 server).now ≡ (looks_of u 0 server).now → (ms : List Message) → BegunAmong w ms → BegunAmong u ms
  from_later u w first is now ms (begins front back piece are data_ r there takes) =
      begins front back piece are data_ r there (λ active. (
        (takes active).0,
        subst (λ (n : ℕ). TakesIn server.setup n (begun_record server.setup c n).looks (piece ∷ back) r.looks) now
            (takes active).1,
      ))
  from_later u w first is now ms (unknown none (inl (inl others))) = unknown none (inl (inl others))
  from_later u w first is now ms (unknown none (inl (inr full))) =
      unknown none (inl (inr (came_since server.setup c u.history w.history v.history first is full)))
  from_later u w first is now ms (unknown none (inr told)) = unknown none (inr told)

  -- one more message in front that is no DATA
  pub with_ack : (u : Stage) (m : Message) (ms : List Message) → is_data m.body ≡ false → BegunAmong u ms
      → BegunAmong u (m ∷ ms)
  with_ack u m ms other_ (begins front back piece are data_ r there takes) =
      begins (m ∷ front) back piece (ap (λ (xs : List Message). m ∷ xs) are) data_ r there takes
  with_ack u m ms other_ (unknown none (inl (inl others))) = unknown none (inl (inl (other_, others)))
  with_ack u m ms other_ (unknown none (inl (inr full))) = unknown none (inl (inr full))
  with_ack u m ms other_ (unknown none (inr told)) = unknown none (inr told)

  -- one more DATA in front, which started nothing
  pub with_data : (u : Stage) (m : Message) (ms : List Message)
      → CameFull server.setup c u.history v.history ⊎ IsTold → BegunAmong u ms → BegunAmong u (m ∷ ms)
  with_data u m ms why (begins front back piece are data_ r there takes) =
      begins (m ∷ front) back piece (ap (λ (xs : List Message). m ∷ xs) are) data_ r there takes
  with_data u m ms (inl full) (unknown none was) = unknown none (inl (inr full))
  with_data u m ms (inr told) (unknown none was) = unknown none (inr told)
