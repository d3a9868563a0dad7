-- The polls of a round, seen from one call: what each end takes of all that was given, and how each end was left.
use Rattle.std.proofs.Common.{◌≡◌, ◌++◌, ℕ, suc, true, false, cond, Bool, List, [], refl, ap, sym, subst, ◌∙◌, Option}
use Rattle.std.proofs.Common.{Some, None, option_map}
use Rattle.std.specs.Prelude.{slice_get}
use Rattle.rx_model.specs.declared.event.Event.{Event}
use Rattle.rx_model.specs.declared.names.CallName.{CallName}
use Rattle.rx_model.specs.declared.names.Host.{Host}
use Rattle.rx_model.specs.Message.{Message}
use Rattle.rx_model.specs.Names.{connection_of}
use Rattle.rx_rules.specs.After.{looks}
use Rattle.rx_rules.specs.Life.{after_silence, is_active}
use Rattle.rx_rules.specs.Looks.{CallRecord, call_at}
use Rattle.rx_rules.specs.Records.{is_silent, silence_of, unless_silent}
use Rattle.rx_rules.specs.Rules.{Legal}
use Rattle.rx_rules.specs.Setup.{Client, FitsSetup, IsServer, Kind, Server, Setup}
use Rattle.rx_rules.proofs.EveryLaws.{Every, every-append}
use Rattle.rx_history.specs.Sides.{IsClientAt, Node, moment, side}
use Rattle.rx_law.proofs.World.{and-some, if-some}
use Rattle.rx_law.specs.Worlds.{Datagram}
use Rattle.rx_plan.specs.Rounds.{Polled, polls}
use Rattle.rx_plan.specs.Stages.{Stage}
use Rattle.rx_rounds.proofs.Rounded.{Made}
use Rattle.rx_closing.specs.Living.{looks_of}
use Rattle.rx_closing.proofs.Frame.{IsPlain, OneOf}
use Rattle.rx_closing.proofs.Messages.Sifted.{IsOwn, Sifted}
use Rattle.rx_closing.proofs.Messages.TakesAll.{IsNotFor}
use Rattle.rx_closing.proofs.Owing.ChannelsStay.{null_mute}
use Rattle.rx_closing.proofs.Polls.EndPolls.{IsHome}
use Rattle.rx_closing.proofs.Polls.GivenFor.{end_quiet, end_sifted, not_for, own_side, sifts_behind, sifts_front}
use Rattle.rx_closing.proofs.Polls.GivenFor.{sifts_more}
use Rattle.rx_closing.proofs.Polls.NodeTurn.{IsGivenBy}
use Rattle.rx_closing.proofs.Polls.OnePoll.{ConnIs}
use Rattle.rx_closing.proofs.Polls.Polled.{EndPolled, EndRested, EndWorked, IsHushed, NoStreamOf, NotOf, RestsAt}
use Rattle.rx_closing.proofs.Polls.Polled.{RoundPolled, WorksAt, end_rests, end_works}
use Rattle.rx_closing.proofs.Polls.RoundGiven.{RoundGiven, round_given}
use Rattle.rx_closing.proofs.Quiet.QuietChannel.{hushed_call}
use Rattle.rx_closing.proofs.Rounds.RoundEvents.{every_weaker}
use Rattle.rx_rounds.proofs.Polls.PolledOut.{quiet_life}

-- ---- a node at which the call is active owes nothing else of it

pub hushed_active : (c : CallName) (k : ℕ) (client server : Node) (s : Stage) → OneOf c k client server s → (j : ℕ)
    (n : Node) → slice_get s.nodes j ≡ Some n → (r : CallRecord) → call_at (looks_of s j n) c ≡ Some r
    → is_active r.life ≡ true → IsHushed c (looks_of s j n)
hushed_active c k client server s one j n there r at active =
    hushed_call n.setup (side j s.history) c r
    (if-some (slice_get s.nodes j) n (λ m. FitsSetup m.setup) there (one.world.sides.nodes_are.fits j))
    (null_mute n.setup.class (if-some (slice_get s.nodes j) n IsPlain there (one.plain j)).open_)
    (if-some (slice_get s.nodes j) n (λ m. Legal m.setup (side j s.history)) there (one.world.sides.legal j)) at active

-- ---- the round

module _ (c : CallName) (k : ℕ) (client server : Node) (s : Stage) (one : OneOf c k client server s) where
  server_home : IsHome server.host server.setup.kind
  server_home =
      of server.setup.kind (and-some (slice_get s.nodes 0) server (λ n. IsServer n.setup.kind) one.server_there
      one.world.sides.nodes_are.server)
    where
      of : (kind : Kind) → IsServer kind → IsHome server.host kind
      of (Server its nonces) is = tt
      of (Client host epoch) is = absurd is

  client_home : IsHome client.host client.setup.kind
  client_home =
      of client.setup.kind (if-some (slice_get s.nodes (suc k)) client (λ m. IsClientAt m.host m.setup.kind)
      one.client_there (one.world.sides.nodes_are.clients k))
    where
      of : (kind : Kind) → IsClientAt client.host kind → IsHome client.host kind
      of (Server its nonces) is = tt
      of (Client host epoch) is = is

  fits_at : (j : ℕ) (n : Node) → slice_get s.nodes j ≡ Some n → FitsSetup n.setup
  fits_at j n there =
      if-some (slice_get s.nodes j) n (λ m. FitsSetup m.setup) there (one.world.sides.nodes_are.fits j)

  module _ (p : Polled) (peer : Host) (service : ℕ) (q : RoundGiven c k client server peer service s p) where
    abbrev asked_side : List Event
    asked_side = side (suc k) p.stage.history

    abbrev served_side : List Event
    served_side = side 0 p.stage.history

    -- what is of other calls isn't for either end
    others_for : (n : Node) → IsHome n.host n.setup.kind → (ds : List Datagram) → Every (NotOf c) ds
        → Every (IsNotFor n c) ds
    others_for n home ds all = every_weaker (NotOf c) (IsNotFor n c) (not_for n c home) ds all

    -- nor what its own side gave
    server_own : Every (IsNotFor server c) q.by_server
    server_own =
        every_weaker (IsGivenBy server.host served_side) (IsNotFor server c)
        (own_side server c server.setup server.host served_side (fits_at 0 server one.server_there)
        (q.outs 0 server one.server_there).legal refl) q.by_server q.by_server_given

    client_own : Every (IsNotFor client c) q.by_client
    client_own =
        every_weaker (IsGivenBy client.host asked_side) (IsNotFor client c)
        (own_side client c client.setup client.host asked_side (fits_at (suc k) client one.client_there)
        (q.outs (suc k) client one.client_there).legal refl) q.by_client q.by_client_given

    asked_sifted : IsHushed c (looks_of s (suc k) client)
        → Sifted (IsOwn client.setup c service) (IsNotFor server c) client.host peer p.given q.asks
    asked_sifted hush =
        subst (λ (ds : List Datagram). Sifted (IsOwn client.setup c service) (IsNotFor server c) client.host peer ds
        q.asks) (sym q.given)
        (sifts_front (IsOwn client.setup c service) client.host peer (IsNotFor server c) q.front
        (q.by_client ++ (q.middle ++ q.by_server)) q.asks (others_for server server_home q.front q.front_others)
        (sifts_behind (IsOwn client.setup c service) client.host peer (IsNotFor server c) q.by_client
        (q.middle ++ q.by_server) q.asks
        (sifts_more (IsOwn client.setup c service) client.host peer (NotOf c) (IsNotFor server c)
        (not_for server c server_home) q.by_client q.asks
        (end_sifted client.setup c peer service (moment (suc k) s.history) client.host (side (suc k) s.history)
        asked_side q.by_client q.asks q.client_left hush))
        (every-append (IsNotFor server c) q.middle q.by_server
        (others_for server server_home q.middle q.middle_others) server_own)))

    answered_sifted : IsHushed c (looks_of s 0 server)
        → Sifted (IsOwn server.setup c q.its) (IsNotFor client c) server.host c.host p.given q.answers
    answered_sifted hush =
        subst (λ (ds : List Datagram). Sifted (IsOwn server.setup c q.its) (IsNotFor client c) server.host c.host ds
        q.answers) (sym q.given)
        (sifts_front (IsOwn server.setup c q.its) server.host c.host (IsNotFor client c) q.front
        (q.by_client ++ (q.middle ++ q.by_server)) q.answers (others_for client client_home q.front q.front_others)
        (sifts_front (IsOwn server.setup c q.its) server.host c.host (IsNotFor client c) q.by_client
        (q.middle ++ q.by_server) q.answers client_own
        (sifts_front (IsOwn server.setup c q.its) server.host c.host (IsNotFor client c) q.middle q.by_server q.answers
        (others_for client client_home q.middle q.middle_others)
        (sifts_more (IsOwn server.setup c q.its) server.host c.host (NotOf c) (IsNotFor client c)
        (not_for client c client_home) q.by_server q.answers
        (end_sifted server.setup c c.host q.its (moment 0 s.history) server.host (side 0 s.history)
        served_side q.by_server q.answers q.server_left hush)))))

    none_given : q.asks ≡ [] → q.answers ≡ [] → Every (NoStreamOf c) p.given
    none_given asks answers =
        subst (Every (NoStreamOf c)) (sym q.given)
        (every-append (NoStreamOf c) q.front (q.by_client ++ (q.middle ++ q.by_server)) (weaker q.front q.front_others)
        (every-append (NoStreamOf c) q.by_client (q.middle ++ q.by_server)
        (end_quiet client.setup c peer service (moment (suc k) s.history) client.host (side (suc k) s.history)
        asked_side q.by_client q.asks q.client_left asks)
        (every-append (NoStreamOf c) q.middle q.by_server (weaker q.middle q.middle_others)
        (end_quiet server.setup c c.host q.its (moment 0 s.history) server.host (side 0 s.history)
        served_side q.by_server q.answers q.server_left answers))))
      where
        weaker : (ds : List Datagram) → Every (NotOf c) ds → Every (NoStreamOf c) ds
        weaker ds all =
            every_weaker (NotOf c) (NoStreamOf c) (λ d not_of m reads stream name. not_of m reads name) ds all

    polled_seen : RoundPolled c k client server peer service s p
    polled_seen =
        record {
          by_client = q.by_client;
          by_server = q.by_server;
          asks = q.asks;
          answers = q.answers;
          its = q.its;
          client_end = q.client_left;
          server_end = q.server_left;
          asked = asked_sifted;
          answered = answered_sifted;
          quiet = none_given;
          by_client_given = q.by_client_given;
          by_server_given = q.by_server_given;
          outs = q.outs;
          moments = q.moments;
          rest = q.rest;
        }

-- what the polls of a round are to the call
pub round_polled : (c : CallName) (k : ℕ) (client server : Node) (s : Stage) (p : Polled) → OneOf c k client server s
    → Made polls s p → (peer : Host) (service : ℕ) → ConnIs (looks_of s (suc k) client) (connection_of c) peer service
    → RoundPolled c k client server peer service s p
round_polled c k client server s p one made peer service conn =
    polled_seen c k client server s one p peer service
    (round_given c k client server s p one made peer service conn)

-- ---- how an end was left, where it is known how it stood

module _ (s : Setup) (c : CallName) (peer : Host) (service now : ℕ) (from : Host) (h later : List Event)
    (ds : List Datagram) (ms : List Message) where
  -- it wasn't
  pub end_rested : RestsAt c (looks s h) → EndPolled s c peer service now from h later ds ms
      → (ms ≡ []) × EndRested s c now h later ds
  end_rested rests (end_works q works left) =
      absurd (let silent = rests q works.there works.active in
      let no : true ≡ false = sym silent ∙ works.awake in cc (no))
  end_rested rests (end_rests its none left) = (none, left)

  -- it is active behind the polls, so it was at work before them
  pub record EndWas (f : CallRecord) : Type 0 where
    pub call : CallRecord
    pub works : WorksAt c (looks s h) call
    pub left : EndWorked s c peer service now from call later ds ms
    pub is : f ≡ record call { looks = left.end }

  pub end_was : (looks s h).now ≡ now → (f : CallRecord) → call_at (looks s later) c ≡ Some f
      → is_active f.life ≡ true → EndPolled s c peer service now from h later ds ms → EndWas f
  end_was at f there active (end_works q works left) =
      record {
        call = q;
        works = works;
        left = left;
        is = (let both : ◌≡◌ {A = Option CallRecord} (Some f) (Some (record q { looks = left.end })) =
            sym there ∙ left.works.there in cc (both));
      }
  end_was at f there active (end_rests rests none left) =
      absurd (of (call_at (looks s h) c) refl (sym there ∙ left.calls))
    where
      of : (o : Option CallRecord) → call_at (looks s h) c ≡ o → Some f ≡ option_map (unless_silent now) o → ⊥
      of None before is = (let no : ◌≡◌ {A = Option CallRecord} (Some f) None = is in cc (no))
      of (Some k) before is =
          (let one : f ≡ unless_silent now k =
          (let both : ◌≡◌ {A = Option CallRecord} (Some f) (Some (unless_silent now k)) = is in cc (both)) in
          by k (is_silent now k) refl before one)
        where
          by : (k : CallRecord) (b : Bool) → is_silent now k ≡ b → call_at (looks s h) c ≡ Some k
              → f ≡ unless_silent now k → ⊥
          by k true silent before one =
              (let idle : is_active f.life ≡ false =
              ap (λ (j : CallRecord). is_active j.life) one
              ∙ ap (λ (b : Bool). is_active (cond b (record k
              { life = after_silence (silence_of now k) k.life }) k).life) silent
              ∙ quiet_life (silence_of now k) k.life in
              let no : true ≡ false = sym active ∙ idle in cc (no))
          by k false awake before one =
              (let same : f ≡ k =
              one ∙ ap (λ (b : Bool). cond b (record k { life = after_silence (silence_of now k) k.life }) k) awake in
              let works : is_active k.life ≡ true =
              ap (λ (j : CallRecord). is_active j.life) (sym same) ∙ active in
              let silent : is_silent now k ≡ true =
              ap (λ (n : ℕ). is_silent n k) (sym at) ∙ rests k before works in
              let no : true ≡ false = sym silent ∙ awake in cc (no))
