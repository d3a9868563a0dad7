-- A call of rounds behind a plan that is found dead at its client was silent at the last stage at which it lives.
use Rattle.std.proofs.Common.{◌≡◌, ◌≤◌, ◌⊎◌, ◌+◌, ◌++◌, ℕ, suc, Bool, true, false, List, [], ◌∷◌, Option, Some, None}
use Rattle.std.proofs.Common.{refl, ap, sym, subst, ◌∙◌, arith}
use Rattle.std.specs.Prelude.{slice_get, IfSome}
use Rattle.rx_model.specs.declared.answers.End.{End}
use Rattle.rx_model.specs.declared.answers.End.TheVariants as ends
use Rattle.rx_model.specs.declared.event.Event.{Event}
use Rattle.rx_model.specs.declared.event.Noted.{Noted}
use Rattle.rx_model.specs.declared.names.CallName.{CallName}
use Rattle.rx_model.specs.declared.names.Host.{Host}
use Rattle.rx_rules.specs.After.{looks}
use Rattle.rx_rules.specs.Life.{Life, is_live}
use Rattle.rx_rules.specs.Life as lives
use Rattle.rx_rules.specs.Looks.{CallRecord, call_at, is_call}
use Rattle.rx_rules.specs.Rules.{Legal}
use Rattle.rx_rules.specs.Setup.{Client, FitsSetup, IsServer, Kind, Server, Setup}
use Rattle.rx_history.proofs.Moments.{now-side}
use Rattle.rx_history.specs.Sides.{IsClientAt, Node, moment, side}
use Rattle.rx_history.specs.Streams.{end_at, end_by, end_of_life}
use Rattle.rx_law.proofs.World.{if-some}
use Rattle.rx_law.proofs.WorldTimed.{found-and}
use Rattle.rx_law.specs.Promises.{ServerForgotNone}
use Rattle.rx_law.specs.Times.{Timely}
use Rattle.rx_law.specs.Worlds.{World}
use Rattle.rx_asks.specs.History.{IsCalled}
use Rattle.rx_jobs.specs.Handlers.{Handlers}
use Rattle.rx_script.specs.declared.plan.Numbered.{Numbered}
use Rattle.rx_plan.specs.Stages.{Stage}
use Rattle.rx_plan.proofs.Allowed.{sides_of}
use Rattle.rx_plan.proofs.ClientEnds.{IsCalledOr, calls_called, end_stays}
use Rattle.rx_closing.specs.Living.{all_live, call_lives_at, looks_of}
use Rattle.rx_closing.specs.Closing.{RoundsBehind}
use Rattle.rx_closing.proofs.Frame.{AreAmong, IsPlain, OneOf, asked_in}
use Rattle.rx_closing.proofs.Living.Before.{one_before}
use Rattle.rx_closing.proofs.Living.CrowdRounds.{IsCrowd, IsSome, crowd_carried}
use Rattle.rx_closing.proofs.Living.LivesOver.{lives_over}
use Rattle.rx_closing.proofs.Living.RoundOnes.{RoundOnes, round_ones}
use Rattle.rx_closing.proofs.Rounds.Begins.{behind_adds, behind_kept, behind_nodes, behind_plain, behind_world}
use Rattle.rx_closing.proofs.Rounds.Begins.{live_among, live_named}
use Rattle.rx_closing.proofs.Rounds.Chains.{Adds, AnyAt, RoundAdds, adds_both, adds_carried, adds_none, chain_nodes}
use Rattle.rx_closing.proofs.Rounds.Chains.{round_adds, round_more}
use Rattle.rx_closing.proofs.Rounds.ClientsApart.{allowed_all, own_call_kind}
use Rattle.rx_closing.proofs.Rounds.LastLife.{LastLife}
use Rattle.rx_closing.proofs.Rounds.RoundEvents.{rounds_lead}
use Rattle.rx_closing.proofs.Rounds.RoundMoments.{moments_stay}
use Rattle.rx_closing.proofs.Rounds.SpokeHolds.{HeardOn, heard_rises}
use Rattle.rx_closing.proofs.Silence.DiesSilent.{dies_silent}
use Rattle.rx_closing.proofs.Unknown.UnservedMeet.{IsAsked, scene_asked}
use Rattle.rx_law.proofs.Law.{side-split}

-- one that ended stays so behind any events
pub ended_on : (s : Setup) (host : Host) (epoch : ℕ) → s.kind ≡ Client host epoch → FitsSetup s
    → (more h : List Event) (c : CallName) (end : End) → Legal s (more ++ h) → end_at (looks s h) c ≡ Some end
    → end_at (looks s (more ++ h)) c ≡ Some end
ended_on s host epoch kind fits [] h c end legal is = is
ended_on s host epoch kind fits (e ∷ more) h c end legal is =
    end_stays s host epoch kind fits e (more ++ h) c end legal
    (ended_on s host epoch kind fits more h c end legal.1 is)

module _ (g : Handlers) (ls : List Numbered) (n : ℕ) (s t : Stage) (b : RoundsBehind g ls n s t) where
  abbrev those : List CallName
  those = all_live s

  abbrev world_s : World s.nodes s.history
  world_s = behind_world g ls n s t b

  among_s : (j : ℕ) → IfSome (slice_get s.nodes j) (λ m. AreAmong those (looks_of s j m))
  among_s j = by (slice_get s.nodes j) refl
    where
      by : (o : Option Node) → slice_get s.nodes j ≡ o → IfSome o (λ m. AreAmong those (looks_of s j m))
      by None there = tt
      by (Some m) there = λ d r found living. live_among s j m d there (live_named s j m d r found living)

  -- what the rounds leave
  left : IsCrowd s.nodes world_s.sides.nodes_are those t.history
  left =
      (rounds_lead s.nodes (IsSome s.nodes world_s.sides.nodes_are those)
      (IsCrowd s.nodes world_s.sides.nodes_are those)
      (crowd_carried s.nodes world_s.sides.nodes_are those) g n s
      (record {
        nodes_are = refl;
        so = record {
          allowed = allowed_all s.nodes s.history world_s.sides;
          carried = world_s.carried;
          among = among_s;
        };
      }) b.fs t b.rounds_are).so

  -- the world at their end
  pub ends_world : World s.nodes t.history
  ends_world =
      record {
        sides = sides_of s.nodes t.history world_s.sides.nodes_are left.allowed;
        carried = left.carried;
        apart = world_s.apart;
      }

  first : (q : Node) × (slice_get s.nodes 0 ≡ Some q) × IsServer q.setup.kind
  first = found-and (slice_get s.nodes 0) (λ m. IsServer m.setup.kind) world_s.sides.nodes_are.server

  -- the server
  pub server : Node
  server = first.0

  pub server_there : slice_get s.nodes 0 ≡ Some server
  unfolding server
  server_there = first.1

module _ (g : Handlers) (ls : List Numbered) (n : ℕ) (s t : Stage) (b : RoundsBehind g ls n s t) (c : CallName) (k : ℕ)
    (client : Node) (there : slice_get s.nodes (suc k) ≡ Some client)
    (living : call_lives_at s c (suc k) client ≡ true) where
  abbrev its : Node
  its = server g ls n s t b

  client_kind : client.setup.kind ≡ Client c.host c.epoch
  client_kind =
      (let q = home client.setup.kind (if-some (slice_get s.nodes (suc k)) client
      (λ m. IsClientAt m.host m.setup.kind) there ((behind_world g ls n s t b).sides.nodes_are.clients k)) in
      of q.0 q.1.0 q.1.1 (call_at (looks_of s (suc k) client) c) refl living)
    where
      home : (q : Kind) → IsClientAt client.host q → (host : Host) × ((epoch : ℕ) × (q ≡ Client host epoch))
      home (Client host epoch) at = (host, (epoch, refl))
      home (Server service nonces) at = absurd at

      of : (host : Host) (epoch : ℕ) → client.setup.kind ≡ Client host epoch → (o : Option CallRecord)
          → call_at (looks_of s (suc k) client) c ≡ o → is_call (λ r. is_live r.life) o ≡ true
          → client.setup.kind ≡ Client c.host c.epoch
      of host epoch kind None found lives_ = absurd cc
      of host epoch kind (Some r) found lives_ =
          own_call_kind client.setup (side (suc k) s.history) c r host epoch kind
          (if-some (slice_get s.nodes (suc k)) client (λ m. FitsSetup m.setup) there
          ((behind_world g ls n s t b).sides.nodes_are.fits (suc k)))
          (if-some (slice_get s.nodes (suc k)) client (λ m. Legal m.setup (side (suc k) s.history)) there
          ((behind_world g ls n s t b).sides.legal (suc k))) found

  same : t.nodes ≡ s.nodes
  same = behind_nodes g ls n s t b

  -- the call at the end of the rounds
  pub ends_one : OneOf c k client its t
  ends_one =
      record {
        world = subst (λ (ns : List Node). World ns t.history) (sym same) (ends_world g ls n s t b);
        kept = subst (λ (ns : List Node). ServerForgotNone ns t.history ⊎ Timely ns t.history) (sym same)
            (behind_kept g ls n s t b);
        server_there = ap (λ (ns : List Node). slice_get ns 0) same ∙ server_there g ls n s t b;
        client_there = ap (λ (ns : List Node). slice_get ns (suc k)) same ∙ there;
        client_is = client_kind;
        plain = λ j.
            subst (λ (ns : List Node). IfSome (slice_get ns j) IsPlain) (sym same) (behind_plain g ls n s t b j);
      }

  -- and at each of their stages
  pub one_at : (v : Stage) → v.nodes ≡ s.nodes → Adds v.history t.history → OneOf c k client its v
  one_at v nodes a = one_before c k client its t ends_one v (nodes ∙ sym same) a

  pub begins : OneOf c k client its s
  begins = one_at s refl (behind_adds g ls n s t b)

  pub fits : FitsSetup client.setup
  fits =
      if-some (slice_get s.nodes (suc k)) client (λ m. FitsSetup m.setup) there
      (begins.world.sides.nodes_are.fits (suc k))

  pub legal_at : (v : Stage) → OneOf c k client its v → Legal client.setup (side (suc k) v.history)
  legal_at v one =
      if-some (slice_get v.nodes (suc k)) client (λ m. Legal m.setup (side (suc k) v.history)) one.client_there
      (one.world.sides.legal (suc k))

  pub legal_t : Legal client.setup (side (suc k) t.history)
  legal_t = legal_at t ends_one

module _ (g : Handlers) (ls : List Numbered) (n : ℕ) (s t : Stage) (b : RoundsBehind g ls n s t) (c : CallName) (k : ℕ)
    (client : Node) (there : slice_get s.nodes (suc k) ≡ Some client)
    (living : call_lives_at s c (suc k) client ≡ true) (o : LastLife g c (suc k) client s t) where
  abbrev node : Node
  node = server g ls n s t b

  -- ---- the last stage at which it lives

  pub ends_adds : Adds o.last.history o.behind.history
  ends_adds = round_more g o.last o.behind o.ends

  pub last_nodes : o.last.nodes ≡ s.nodes
  last_nodes = chain_nodes g o.many s o.last o.front

  behind_same : o.behind.nodes ≡ s.nodes
  behind_same = (round_adds g o.last o.behind o.ends).nodes ∙ last_nodes

  pub rest_adds : Adds o.behind.history t.history
  rest_adds =
      (rounds_lead s.nodes AnyAt (Adds o.behind.history) (adds_carried s.nodes o.behind.history) g o.left o.behind
      (record { nodes_are = behind_same; so = adds_none o.behind.history }) o.rest.0 t o.rest.1).so

  pub last_adds : Adds o.last.history t.history
  last_adds = adds_both o.last.history o.behind.history t.history ends_adds rest_adds

  pub last_one : OneOf c k client node o.last
  last_one = one_at g ls n s t b c k client there living o.last last_nodes last_adds

  pub last_ones : RoundOnes c k client node g o.last o.behind o.ends
  last_ones =
      round_ones c k client node g o.last o.behind o.ends
      (one_at g ls n s t b c k client there living o.behind behind_same rest_adds)

  -- ---- it is dead behind the turns of the round in which it ended

  adds : RoundAdds g o.last o.behind o.ends
  adds = round_adds g o.last o.behind o.ends

  pub to_called : Adds o.last.history o.ends.called.history
  to_called =
      adds_both o.last.history o.ends.served.history o.ends.called.history
      (adds_both o.last.history o.ends.delivered.history o.ends.served.history
      (adds_both o.last.history o.ends.polled.stage.history o.ends.delivered.history adds.polled adds.delivered)
      adds.served) adds.called

  pub from_called : Adds o.ends.called.history t.history
  from_called = adds_both o.ends.called.history o.behind.history t.history adds.over rest_adds

  pub last_asked : IsAsked c k client o.last
  last_asked = scene_asked c k client node o.last last_one o.lives

  split : (v : Stage) (h : List Noted) → (a : Adds h v.history)
      → side (suc k) v.history ≡ side (suc k) a.more ++ side (suc k) h
  split v h a = ap (side (suc k)) a.is ∙ side-split (suc k) a.more h

  abbrev client_fits : FitsSetup client.setup
  client_fits = fits g ls n s t b c k client there living

  abbrev client_is : client.setup.kind ≡ Client c.host c.epoch
  client_is = last_one.client_is

  pub called_legal : Legal client.setup (side (suc k) o.ends.called.history)
  called_legal = legal_at g ls n s t b c k client there living o.ends.called last_ones.called

  not_called : call_lives_at o.ends.called c (suc k) client ≡ true → ⊥
  not_called called =
      (let on = lives_over c k client node g o.last o.behind o.ends last_ones.called o.lives called in
      let no : ◌≡◌ {A = Bool} true false = sym on ∙ o.dead in cc (no))

  called_there : HeardOn client.setup (side (suc k) to_called.more ++ side (suc k) o.last.history) c last_asked.call
  called_there =
      heard_rises client.setup (side (suc k) to_called.more) (side (suc k) o.last.history) c last_asked.call client_fits
      (subst (Legal client.setup) (split o.ends.called o.last.history to_called) called_legal) last_asked.there

  called_is : asked_in c k client o.ends.called ≡ Some called_there.call
  called_is =
      ap (λ (h : List Event). call_at (looks client.setup h) c) (split o.ends.called o.last.history to_called)
      ∙ called_there.there

  module _ (silence : ℕ) (dead : end_at (looks_of t (suc k) client) c ≡ Some (ends.Dead silence)) where
    pub called_dead : end_at (looks_of o.ends.called (suc k) client) c ≡ Some (ends.Dead silence)
    called_dead =
        of called_there.call.life refl
        (subst IsCalledOr called_is
        (calls_called client.setup c.host c.epoch client_is client_fits
        (side (suc k) o.ends.called.history) c called_legal))
      where
        of : (x : Life) → called_there.call.life ≡ x → IsCalled called_there.call.life
            → end_at (looks_of o.ends.called (suc k) client) c ≡ Some (ends.Dead silence)
        of lives.Calling is called =
            absurd (not_called (ap (is_call (λ (r : CallRecord). is_live r.life)) called_is ∙ ap is_live is))
        of (lives.Ended end) is called =
            (let before : end_at (looks_of o.ends.called (suc k) client) c ≡ Some end =
            ap end_by called_is ∙ ap end_of_life is in
            let own = split t o.ends.called.history from_called in
            let behind = ended_on client.setup c.host c.epoch client_is client_fits (side (suc k) from_called.more)
            (side (suc k) o.ends.called.history) c end (subst (Legal client.setup) own
            (legal_t g ls n s t b c k client there living)) before in
            let all : ◌≡◌ {A = Option End} (Some end) (Some (ends.Dead silence)) =
            sym behind ∙ ap (λ (h : List Event). end_at (looks client.setup h) c) (sym own) ∙ dead in
            before ∙ all)
        of _ is called = absurd (subst IsCalled is called)

    -- it wasn't heard for 12,000 ms then
    pub last_silent : last_asked.call.looks.heard + 12000 ≤ moment (suc k) o.last.history
    last_silent =
        (let own = split o.ends.called o.last.history to_called in
        let long = dies_silent client.setup c.host c.epoch client_is client_fits (side (suc k) to_called.more)
        (side (suc k) o.last.history) c last_asked.call silence (subst (Legal client.setup) own called_legal)
        last_asked.there last_asked.calling
        (ap (λ (h : List Event). end_at (looks client.setup h) c) (sym own) ∙ called_dead) in
        let now = ap (λ (h : List Event). (looks client.setup h).now) (sym own)
        ∙ now-side client.setup (suc k) o.ends.called.history
        ∙ (moments_stay g o.last o.behind o.ends).called (suc k) in
        omega (arith, long, now))
