-- What was received of a call that starts only where it has no record, along a legal history of its node: it only
-- grows, and where it was read to its end it is whole.
use Rattle.std.proofs.Common.{◌≡◌, ℕ, List, [], ◌∷◌, Option, Some, None, sym, subst}
use Rattle.rx_model.specs.declared.event.Event.{Event}
use Rattle.rx_model.specs.declared.names.CallName.{CallName}
use Rattle.rx_model.specs.declared.names.Host.{Host}
use Rattle.rx_rules.specs.After.{looks}
use Rattle.rx_rules.specs.Looks.{CallRecord, call_at}
use Rattle.rx_rules.specs.Received.{Packet, Received}
use Rattle.rx_rules.specs.Rules.{Legal}
use Rattle.rx_rules.specs.Setup.{Setup, Client, FitsSetup, IsServer}
use Rattle.rx_history.proofs.ClientHistory.{called-turn, client-calls}
use Rattle.rx_history.proofs.Ends.{Moves, ends_of}
use Rattle.rx_law.proofs.ServerHistory.{served-turn, server-serves}
use Rattle.rx_history.specs.Starts.{StartsOnce}
use Rattle.rx_between.specs.Told.{Grows}
use Rattle.rx_between.specs.Acknowledged.{received_by}
use Rattle.rx_between.proofs.Each.EachEvent.{each_step}
use Rattle.rx_between.proofs.Each.EachStep.{EndStep}
use Rattle.rx_between.proofs.GivenAcks.{OnlyGrows}
use Rattle.rx_between.proofs.Grows.{step_grows}
use Rattle.rx_between.proofs.Onward.{client_anew, end_by, onward, received_is, server_anew}
use Rattle.rx_between.proofs.Whole.{EndsWhole, MayEnd, step_whole}

-- an event is a step of a call's end
abbrev pub StepOf : Setup → Event → List Event → CallName → Type 0
StepOf s e h c =
    EndStep s (looks s h) e c (end_by s (looks s h).now (call_at (looks s h) c))
    (end_by s (looks s h).now (call_at (looks s (e ∷ h)) c))

-- each event of a client is
pub client_onward : (s : Setup) (host : Host) (epoch : ℕ) (e : Event) (h : List Event) (c : CallName)
    → s.kind ≡ Client host epoch → FitsSetup s → Legal s (e ∷ h) → StepOf s e h c
client_onward s host epoch e h c kind fits legal =
    onward s (looks s h) e c (call_at (looks s h) c) (call_at (looks s (e ∷ h)) c) (each_step s h e c fits legal)
    (client_anew s host epoch e h c kind fits legal (client-calls s host epoch h kind fits legal.1))

-- and of a server that starts the call once
pub server_onward : (s : Setup) (e : Event) (h : List Event) (c : CallName) → IsServer s.kind → FitsSetup s
    → Legal s (e ∷ h) → StartsOnce s (e ∷ h) c → StepOf s e h c
server_onward s e h c server fits legal once =
    onward s (looks s h) e c (call_at (looks s h) c) (call_at (looks s (e ∷ h)) c) (each_step s h e c fits legal)
    (server_anew s e h c server legal once.0)

-- ---- it only grows

grown-by : (s : Setup) (now : ℕ) (a b : Option CallRecord)
    → Grows (end_by s now a).received (end_by s now b).received → Grows (received_by a) (received_by b)
grown-by s now a b grows =
    subst (λ (r : Received). Grows (received_by a) r) (received_is s now b)
    (subst (λ (r : Received). Grows r (end_by s now b).received) (received_is s now a) grows)

-- by such an event
pub grown_step : (s : Setup) (e : Event) (h : List Event) (c : CallName) → StepOf s e h c
    → Grows (received_by (call_at (looks s h) c)) (received_by (call_at (looks s (e ∷ h)) c))
grown_step s e h c step =
    grown-by s (looks s h).now (call_at (looks s h) c) (call_at (looks s (e ∷ h)) c)
    (step_grows s (looks s h) e c _ _ step)

pub client_only_grows : (s : Setup) (host : Host) (epoch : ℕ) (h : List Event) (c : CallName)
    → s.kind ≡ Client host epoch → FitsSetup s → Legal s h → OnlyGrows s c h
client_only_grows s host epoch [] c kind fits legal = tt
client_only_grows s host epoch (e ∷ h) c kind fits legal = (
  grown_step s e h c (client_onward s host epoch e h c kind fits legal),
  client_only_grows s host epoch h c kind fits legal.1,
)

pub server_only_grows : (s : Setup) (h : List Event) (c : CallName) → IsServer s.kind → FitsSetup s → Legal s h
    → StartsOnce s h c → OnlyGrows s c h
server_only_grows s [] c server fits legal once = tt
server_only_grows s (e ∷ h) c server fits legal once = (
  grown_step s e h c (server_onward s e h c server fits legal once),
  server_only_grows s h c server fits legal.1 once.1,
)

-- ---- read to its end it is whole

may-end : (Comes : Packet → Type 0) (a b : Option CallRecord) → Moves Comes (ends_of a) (ends_of b)
    → MayEnd (received_by a) (received_by b)
may-end Comes None None moves = moves.ended
may-end Comes None (Some b) moves = moves.ended
may-end Comes (Some a) None moves = moves.ended
may-end Comes (Some a) (Some b) moves = moves.ended

whole-step : (s : Setup) (e : Event) (h : List Event) (c : CallName) → StepOf s e h c
    → MayEnd (received_by (call_at (looks s h) c)) (received_by (call_at (looks s (e ∷ h)) c))
    → EndsWhole (received_by (call_at (looks s h) c)) → EndsWhole (received_by (call_at (looks s (e ∷ h)) c))
whole-step s e h c step may whole =
    let now : ℕ = (looks s h).now in
    let a : Option CallRecord = call_at (looks s h) c in
    let b : Option CallRecord = call_at (looks s (e ∷ h)) c in
    let may' : MayEnd (end_by s now a).received (end_by s now b).received =
    subst (λ (r : Received). MayEnd (end_by s now a).received r) (sym (received_is s now b))
    (subst (λ (r : Received). MayEnd r (received_by b)) (sym (received_is s now a)) may) in
    let whole' : EndsWhole (end_by s now a).received = subst EndsWhole (sym (received_is s now a)) whole in
    subst EndsWhole (received_is s now b)
    (step_whole s (looks s h) e c (end_by s now a) (end_by s now b) step may' whole')

none-whole : EndsWhole (received_by None)
none-whole ended = absurd cc

pub client_whole : (s : Setup) (host : Host) (epoch : ℕ) (h : List Event) (c : CallName) → s.kind ≡ Client host epoch
    → FitsSetup s → Legal s h → EndsWhole (received_by (call_at (looks s h) c))
client_whole s host epoch [] c kind fits legal = none-whole
client_whole s host epoch (e ∷ h) c kind fits legal =
    let old = client-calls s host epoch h kind fits legal.1 in
    whole-step s e h c (client_onward s host epoch e h c kind fits legal)
    (may-end _ (call_at (looks s h) c) (call_at (looks s (e ∷ h)) c)
    ((called-turn s host epoch e h c kind fits legal old).moves tt))
    (client_whole s host epoch h c kind fits legal.1)

pub server_whole : (s : Setup) (h : List Event) (c : CallName) → IsServer s.kind → FitsSetup s → Legal s h
    → StartsOnce s h c → EndsWhole (received_by (call_at (looks s h) c))
server_whole s [] c server fits legal once = none-whole
server_whole s (e ∷ h) c server fits legal once =
    let old = server-serves s h c server fits legal.1 once.1 in
    whole-step s e h c (server_onward s e h c server fits legal once)
    (may-end _ (call_at (looks s h) c) (call_at (looks s (e ∷ h)) c)
    ((served-turn s e h c server fits legal once old).moves tt))
    (server_whole s h c server fits legal.1 once.1)
