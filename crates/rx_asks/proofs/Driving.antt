-- What a caller tells of its call, along a history that it drives.
use Rattle.std.proofs.Common.{◌≡◌, ◌<◌, nat_lt, ℕ, true, false, List, [], ◌∷◌, Option, Some, None}
use Rattle.std.proofs.Common.{Result, Ok, Err, refl, sym, subst, arith}
use Rattle.rx_model.specs.declared.answers.BadMsg.{BadMsg}
use Rattle.rx_model.specs.declared.answers.Took.{Took}
use Rattle.rx_model.specs.declared.answers.Took.TheVariants as tooks
use Rattle.rx_model.specs.declared.event.Event.{Event}
use Rattle.rx_model.specs.declared.event.Event.TheVariants as events
use Rattle.rx_model.specs.declared.names.CallName.{CallName}
use Rattle.rx_model.specs.declared.names.Host.{Host}
use Rattle.rx_model.specs.Message.{Message}
use Rattle.rx_model.specs.Names.{channel_of, connection_of, same_name}
use Rattle.rx_model.specs.Reading.{reading_of}
use Rattle.rx_model.proofs.NameLaws.{name_is}
use Rattle.rx_rules.specs.After.{after, looks, prepared}
use Rattle.rx_rules.specs.CallLooks.{fresh_call}
use Rattle.rx_rules.specs.Judging.{outer_row}
use Rattle.rx_rules.specs.Life as lives
use Rattle.rx_rules.specs.Looks.{CallRecord, Looks, call_at, channel_at, conn_at}
use Rattle.rx_rules.specs.Rules.{AllowedClient, Legal}
use Rattle.rx_rules.specs.Setup.{Client, FitsSetup, Setup, named, pace_of}
use Rattle.rx_rules.proofs.ConnsLaws.{number_of}
use Rattle.rx_history.specs.Starts.{StartsBy, StartsNew}
use Rattle.rx_history.proofs.Client.{fresh-call}
use Rattle.rx_history.proofs.ClientHistory.{client-calls, clients}
use Rattle.rx_history.proofs.Conns.{Conns}
use Rattle.rx_history.proofs.Server.{spared-starts}
use Rattle.rx_history.proofs.Laws.SoundLaws.{Below, Sound}
use Rattle.rx_history.proofs.Takes.{call_at-any}
use Rattle.rx_asks.specs.Asks.{calling, heard}
use Rattle.rx_asks.specs.History.{Drives, starts, begins, makes, leaves, IsCalledAt, LeavesCall, Tells}
use Rattle.rx_asks.specs.History.{TellsOfItsCall}
use Rattle.rx_asks.specs.View.{CallerState, caller_for}
use Rattle.rx_asks.proofs.KeptEvents.{StartsNoCall, kept_after}
use Rattle.rx_asks.proofs.KeptTaken.{StartsNone, StartsNoneBy, StartsNoneOf}
use Rattle.rx_asks.proofs.Telling.{tells_begun, tells_kept, tells_made, tells_of}
use Rattle.rx_wire.specs.Turns.{Runs, after_all, goes, stays}

-- what is there isn't nothing
there-none : (o : Option CallRecord) → IsCalledAt o → o ≡ None → ⊥
there-none None there none = there
there-none (Some k) there none = absurd cc

-- ---- at its start

tells-first : (s : Setup) (cid : ℕ) (c : CallName) (request : List ℕ) (l : Looks)
    → Tells request (caller_for c request) (after s (events.Called cid (Ok c)) l)
tells-first s cid c request l =
    let new : CallRecord =
    record { name = c; life = lives.Calling; looks = fresh_call (pace_of s) l.now } in
    let found : call_at (after s (events.Called cid (Ok c)) l) c ≡ Some new =
    call_at-any c new l refl (call_at l c) refl in
    tells_of request (caller_for c request) (after s (events.Called cid (Ok c)) l) new found
    (record {
      called = tt;
      said = refl;
      shut = λ is. absurd (cc (is));
      read = refl;
      ended = λ end is. absurd (cc (is));
    })

-- ---- its call doesn't start again

module _ (s : Setup) (l : Looks) (c : CallName) (there : IsCalledAt (call_at l c)) where
  -- a data packet doesn't start it
  kept-none : (from : Host) (bytes : List ℕ) (got : Took) (m : Message) → StartsBy s l from bytes c got
      → reading_of bytes ≡ Ok m → outer_row s s.kind l from m ≡ None
      → StartsNone c (named s from m) (prepared s got (connection_of (named s from m)) l)
  kept-none from bytes got m new reads front same above =
      let is : c ≡ named s from m = name_is c (named s from m) same in
      let mine : nat_lt (channel_at (prepared s got (connection_of c) l) (channel_of c)).number c.number ≡ true =
      subst (λ (n : CallName). nat_lt (channel_at (prepared s got (connection_of n) l) (channel_of n)).number n.number
      ≡ true) (sym is) above in
      there-none (call_at l c) there (new m reads front (sym is) mine)

  taken-none : (from : Host) (bytes : List ℕ) (got : Took) (m : Message)
      → StartsNew s l (events.Taken from bytes got) c → reading_of bytes ≡ Ok m → outer_row s s.kind l from m ≡ None
      → StartsNoneBy got c (named s from m) (prepared s got (connection_of (named s from m)) l)
  taken-none from bytes tooks.Kept m new reads front = kept-none from bytes tooks.Kept m new reads front
  taken-none from bytes tooks.NoSlot m new reads front = kept-none from bytes tooks.NoSlot m new reads front
  taken-none from bytes _ m new reads front = tt

  read-none : (from : Host) (bytes : List ℕ) (got : Took) (reading : Result Message BadMsg)
      → StartsNew s l (events.Taken from bytes got) c → reading_of bytes ≡ reading
      → StartsNoneOf s l from reading got c
  read-none from bytes got (Err bad) new reads = tt
  read-none from bytes got (Ok m) new reads = taken-none from bytes got m new reads

  -- nor does the client
  called-none : (host : Host) (epoch cid : ℕ) (d : CallName) → s.kind ≡ Client host epoch → FitsSetup s
      → AllowedClient s host epoch l (events.Called cid (Ok d)) → Sound l c 0 → Conns s l → same_name c d ≡ false
  called-none host epoch cid d kind fits allowed sound conns =
      (elim (same_name c d) as (λ b. same_name c d ≡ b → b ≡ false) [
        | true ↦ λ same. absurd (again same)
        | false ↦ λ other. refl
      ]) refl
    where
      of : (o : Option CallRecord) (number top : ℕ) → IsCalledAt o → Below o number top → top < number → ⊥
      of None number top there below above = there
      of (Some k) number top there below above = absurd (omega arith)

      again : same_name c d ≡ true → ⊥
      again same =
          let is : c ≡ d = name_is c d same in
          let fresh = fresh-call s host epoch cid l d kind fits conns allowed in
          let above : number_of (conn_at l (connection_of c)) c.chan < c.number =
          subst (λ (n : CallName). number_of (conn_at l (connection_of n)) n.chan < n.number) (sym is) fresh.above in
          of (call_at l c) c.number (number_of (conn_at l (connection_of c)) c.chan) there sound.below above

  -- so no event does
  pub none_starts : (host : Host) (epoch : ℕ) (e : Event) → s.kind ≡ Client host epoch → FitsSetup s
      → AllowedClient s host epoch l e → Sound l c 0 → Conns s l → StartsNew s l e c → StartsNoCall s l c e
  none_starts host epoch (events.Called cid (Ok d)) kind fits allowed sound conns new =
      called-none host epoch cid d kind fits allowed sound conns
  none_starts host epoch (events.Taken from bytes got) kind fits allowed sound conns new =
      read-none from bytes got (reading_of bytes) new refl
  none_starts host epoch _ kind fits allowed sound conns new = tt

-- ---- along a history

tells-left : (s : Setup) (host : Host) (epoch : ℕ) (request : List ℕ) (v : CallerState) (e : Event) (h : List Event)
    → s.kind ≡ Client host epoch → FitsSetup s → Legal s (e ∷ h) → LeavesCall v.call e → Tells request v (looks s h)
    → Tells request v (looks s (e ∷ h))
tells-left s host epoch request v e h kind fits legal leaves_it t =
    let l : Looks = looks s h in
    let before = client-calls s host epoch h kind fits legal.1 in
    let behind = client-calls s host epoch (e ∷ h) kind fits legal in
    let allowed = clients s.kind s host epoch l e kind legal.0 in
    let new : StartsNew s l e v.call =
    spared-starts (Unit {0}) v.call s l e (before.sound v.call) (behind.spared (connection_of v.call)) in
    tells_kept request v l (after s e l)
    (kept_after s host epoch l v.call e allowed leaves_it
    (none_starts s l v.call t.called host epoch e kind fits allowed (before.sound v.call) before.standing.conns new)) t

-- what it tells along a history that it drives
pub tells_driven : TellsOfItsCall
tells_driven s host epoch limit request v h kind fits legal (starts cid c h') =
    tells-first s cid c request (looks s h')
tells_driven s host epoch limit request v h kind fits legal (begins w h' drives) =
    tells_begun request w (looks s h') (tells_driven s host epoch limit request w h' kind fits legal drives)
tells_driven s host epoch limit request v h kind fits legal (makes w a e h' asked is drives) =
    tells_made limit request s host epoch w (looks s h') a e asked is
    (clients s.kind s host epoch (looks s h') e kind legal.0)
    (tells_driven s host epoch limit request w h' kind fits legal.1 drives)
tells_driven s host epoch limit request v h kind fits legal (leaves w e h' leaves_it drives) =
    tells-left s host epoch request w e h' kind fits legal leaves_it
    (tells_driven s host epoch limit request w h' kind fits legal.1 drives)

-- ---- along a turn

-- a history with the events of a turn behind it is one that it drives
pub drives_on : (limit : ℕ) (request : List ℕ) (v w : CallerState) (es h : List Event) → Runs (calling limit) v es w
    → Drives limit request v h → Drives limit request w (after_all es h)
drives_on limit request v w es h (stays at) drives = drives
drives_on limit request v w es h (goes at a e es' to asked is then) drives =
    drives_on limit request (heard at e) w es' (e ∷ h) then (makes at a e h asked is drives)
