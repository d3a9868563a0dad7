-- The window that a sender takes for its peer's isn't wider than the peer's: each step of the sender's end leaves that
-- so, where each ACK that comes was made by the peer.
use Rattle.std.proofs.Common.{◌≡◌, ◌≤◌, ◌-◌, if◌then◌else◌, nat_lt, ℕ, Bool, true, false, List, ◌∷◌, Option}
use Rattle.std.proofs.Common.{Some, None, sym, subst, arith}
use Rattle.rx_model.specs.declared.answers.Took.{Took}
use Rattle.rx_model.specs.declared.answers.Took.TheVariants as tooks
use Rattle.rx_model.specs.declared.event.Event.{Event}
use Rattle.rx_model.specs.declared.names.CallName.{CallName}
use Rattle.rx_model.specs.Body.{AckBody, Body}
use Rattle.rx_model.specs.Body as bodies
use Rattle.rx_model.specs.Message.{Message}
use Rattle.rx_rules.specs.After.{looks}
use Rattle.rx_rules.specs.CallItems.{Sending, Piece, Ack, after_sending}
use Rattle.rx_rules.specs.CallLooks.{CallLooks, NodeView, after_body, after_chunk, after_taken, found}
use Rattle.rx_rules.specs.Looks.{Looks, call_at}
use Rattle.rx_rules.specs.Sent.{Sent, after_ack, is_marked, with_window}
use Rattle.rx_rules.specs.Setup.{Setup, FitsSetup, receiving_window}
use Rattle.rx_between.specs.Acknowledged.{sent_by}
use Rattle.rx_between.specs.Agreed.{IsLetBy}
use Rattle.rx_between.proofs.Each.EachStep.{EndStep, Judges, finishes, is_own, gives, reads, shuts, stays, takes}
use Rattle.rx_between.proofs.Each.EachStep.{writes}
use Rattle.rx_between.proofs.Histories.{StepOf}
use Rattle.rx_between.proofs.Onward.{end_by, sent_is}

-- an ACK of the peer tells its window
abbrev pub TellsWindow : Setup → Body → Type 0
TellsWindow peer (bodies.Ack a) = a.window ≡ Some (receiving_window peer)
TellsWindow peer _ = Unit {0}

-- as it is read
narrow : (peer : Setup) → FitsSetup peer → with_window (Some (receiving_window peer)) 0 ≤ receiving_window peer
narrow peer fits = (let wide = fits.limits.wide in omega arith)

-- of a call that starts
pub fresh_let : (peer : Setup) → FitsSetup peer → IsLetBy peer (sent_by None)
fresh_let peer fits = (let wide = fits.limits.wide in omega arith)

module _ (peer : Setup) (fits : FitsSetup peer) where
  ack_let : (a : AckBody) (s : Sent) → a.window ≡ Some (receiving_window peer) → IsLetBy peer s
      → IsLetBy peer (after_ack a.first a.marks a.window s)
  ack_let a s told low = of (nat_lt (a.first - 1) s.acked)
    where
      of : (b : Bool) → IsLetBy peer (if b then s else record s {
        acked = a.first - 1;
        soft = is_marked a.first a.marks;
        peer_window = with_window a.window s.peer_window;
      })
      of true = low
      of false = subst (λ (w : Option ℕ). with_window w s.peer_window ≤ receiving_window peer) (sym told)
          (narrow peer fits)

  body_let : (now : ℕ) (m : Message) (body : Body) (k : CallLooks) → TellsWindow peer body → IsLetBy peer k.sent
      → IsLetBy peer (after_body now m body k).sent
  body_let now m (bodies.Ack a) k told low = ack_let a k.sent told low
  body_let now m bodies.AckAll k told low = low
  body_let now m _ k told low = low

  found_let : (client : Bool) (k : CallLooks) → IsLetBy peer k.sent → IsLetBy peer (found client k).sent
  found_let true k low = low
  found_let false k low = low

  chunk_let : (v : NodeView) (got : Took) (m : Message) (body : Body) (k : CallLooks) → IsLetBy peer k.sent
      → IsLetBy peer (after_chunk v got m body k).sent
  chunk_let v got m (bodies.Chunk payload) k low = found_let v.client k low
  chunk_let v got m _ k low = low

  taken_let : (v : NodeView) (got : Took) (m : Message) (k : CallLooks) → TellsWindow peer m.body → IsLetBy peer k.sent
      → IsLetBy peer (after_taken v got m k).sent
  taken_let v tooks.Kept m k told low = chunk_let v tooks.Kept m m.body k low
  taken_let v tooks.Repeat m k told low = chunk_let v tooks.Repeat m m.body k low
  taken_let v tooks.Beyond m k told low = chunk_let v tooks.Beyond m m.body k low
  taken_let v tooks.Clash m k told low = chunk_let v tooks.Clash m m.body k low
  taken_let v tooks.NoSlot m k told low = chunk_let v tooks.NoSlot m m.body k low
  taken_let v tooks.Heard m k told low = body_let v.now m m.body k told low
  taken_let v _ m k told low = low

  sending_let : (now : ℕ) (x : Sending) (k : CallLooks) → IsLetBy peer k.sent
      → IsLetBy peer (after_sending now x k).sent
  sending_let now (Piece seq again) k low = low
  sending_let now (Ack reason serial) k low = low

  same_let : (a b : CallLooks) → b ≡ a → IsLetBy peer a.sent → IsLetBy peer b.sent
  same_let a b is low = subst (λ (k : CallLooks). IsLetBy peer k.sent) (sym is) low

  end_let : (s : Setup) (l : Looks) (e : Event) (c : CallName) (a b : CallLooks) → EndStep s l e c a b
      → ((m : Message) (got : Took) → is_own got ≡ true → Judges s l e c m got → TellsWindow peer m.body)
      → IsLetBy peer a.sent → IsLetBy peer b.sent
  end_let s l e c a b (stays is) told low = same_let a b is low
  end_let s l e c a b (takes t) told low =
      same_let (after_taken t.view t.got t.message a) b t.is
      (taken_let t.view t.got t.message a (told t.message t.got t.own t.judges) low)
  end_let s l e c a b (gives g) told low =
      same_let (after_sending l.now g.sending a) b g.is (sending_let l.now g.sending a low)
  end_let s l e c a b (writes offered got bytes event is) told low = same_let _ b is low
  end_let s l e c a b (reads most got bytes event is) told low = same_let _ b is low
  end_let s l e c a b (shuts event is) told low = same_let _ b is low
  end_let s l e c a b (finishes code event zero' is) told low = same_let _ b is low

  -- of a call that is looked for
  pub let_step : (s : Setup) (e : Event) (h : List Event) (c : CallName) → StepOf s e h c
      → ((m : Message) (got : Took) → is_own got ≡ true → Judges s (looks s h) e c m got → TellsWindow peer m.body)
      → IsLetBy peer (sent_by (call_at (looks s h) c)) → IsLetBy peer (sent_by (call_at (looks s (e ∷ h)) c))
  let_step s e h c step told low =
      let l : Looks = looks s h in
      subst (IsLetBy peer) (sent_is s l.now (call_at (looks s (e ∷ h)) c))
      (end_let s l e c (end_by s l.now (call_at l c)) (end_by s l.now (call_at (looks s (e ∷ h)) c)) step told
      (subst (IsLetBy peer) (sym (sent_is s l.now (call_at l c))) low))
