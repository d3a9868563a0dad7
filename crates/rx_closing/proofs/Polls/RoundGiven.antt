-- The polls of a round, seen from one call, whatever other calls live: what its two ends gave, in order, among what is
-- of others.
use Rattle.std.proofs.Common.{◌≡◌, ◌≢◌, ◌<◌, ◌+◌, ◌-◌, ◌++◌, ℕ, zero, suc, List, [], ◌∷◌, refl, ap, sym, subst, ◌∙◌}
use Rattle.std.proofs.Common.{inl, inr, ⊎_elim, Some, append_assoc, length, arith}
use Rattle.std.specs.Prelude.{IfSome, slice_get}
use Rattle.rx_model.specs.declared.event.Event.{Event}
use Rattle.rx_model.specs.declared.names.CallName.{CallName}
use Rattle.rx_model.specs.declared.names.Host.{Host}
use Rattle.rx_model.specs.Message.{Message}
use Rattle.rx_model.specs.Names.{connection_of}
use Rattle.rx_rules.specs.After.{looks}
use Rattle.rx_rules.specs.Rules.{Legal}
use Rattle.rx_rules.specs.Setup.{Client, FitsSetup, IsServer, Kind, Server, Setup}
use Rattle.rx_rules.proofs.EveryLaws.{Every}
use Rattle.rx_history.specs.Sides.{IsClientAt, Node, moment, side}
use Rattle.rx_law.proofs.World.{and-some, if-some}
use Rattle.rx_law.specs.Worlds.{AreApart, Datagram}
use Rattle.rx_plan.specs.Parts.{To, each}
use Rattle.rx_plan.specs.Rounds.{Polled, polls, polls_out}
use Rattle.rx_plan.specs.Stages.{Stage}
use Rattle.rx_rounds.proofs.Clocks.ClocksMove.{AreApart as AreDistinct, IsNone, from_on, in_order, low_order}
use Rattle.rx_rounds.proofs.Clocks.ClocksMove.{order_apart}
use Rattle.rx_rounds.proofs.Clocks.ClocksMove.{order_is}
use Rattle.rx_between.proofs.Each.EachItem.{In, in_behind, in_front}
use Rattle.rx_rounds.proofs.Making.{ends_to, then_to}
use Rattle.rx_rounds.proofs.Rounded.{Made}
use Rattle.rx_closing.specs.Living.{looks_of}
use Rattle.rx_closing.proofs.Frame.{IsPlain, OneOf}
use Rattle.rx_closing.proofs.Messages.Delivered.{node_is}
use Rattle.rx_closing.proofs.Owing.ChannelsStay.{IsMute, null_mute}
use Rattle.rx_closing.proofs.Polls.EndPolls.{EndTurn, IsHome, end_polls}
use Rattle.rx_closing.proofs.Polls.InParts.{apart_parts, from_parts, in_none, none_in, rest_both}
use Rattle.rx_closing.proofs.Polls.InParts.{then_four}
use Rattle.rx_closing.proofs.Polls.NodePolls.{server_conn}
use Rattle.rx_closing.proofs.Polls.NodeTurn.{IsGivenBy, OutAt}
use Rattle.rx_closing.proofs.Polls.OnePoll.{ConnIs}
use Rattle.rx_closing.proofs.Polls.OtherPolls.{OtherAt, other_outs, other_stays}
use Rattle.rx_closing.proofs.Polls.Polled.{EndPolled, NotOf}
use Rattle.rx_between.proofs.Within.{in_either}
use Rattle.rx_rounds.proofs.Clocks.GivesOrMoves.{nth_low}
use Rattle.rx_rounds.proofs.Polls.QuietPolls.{nth_there}

-- what the polls of a round gave, and what they left
pub record RoundGiven (c : CallName) (k : ℕ) (client server : Node) (peer : Host) (service : ℕ) (s : Stage)
    (p : Polled) : Type 0 where
  pub front : List Datagram
  pub by_client : List Datagram
  pub middle : List Datagram
  pub by_server : List Datagram
  pub given : p.given ≡ front ++ (by_client ++ (middle ++ by_server))
  pub by_client_given : Every (IsGivenBy client.host (side (suc k) p.stage.history)) by_client
  pub by_server_given : Every (IsGivenBy server.host (side 0 p.stage.history)) by_server
  pub front_others : Every (NotOf c) front
  pub middle_others : Every (NotOf c) middle
  pub asks : List Message
  pub client_left : EndPolled client.setup c peer service (moment (suc k) s.history) client.host
      (side (suc k) s.history) (side (suc k) p.stage.history) by_client asks
  pub its : ℕ
  pub answers : List Message
  pub server_left : EndPolled server.setup c c.host its (moment 0 s.history) server.host (side 0 s.history)
      (side 0 p.stage.history) by_server answers
  pub outs : (j : ℕ) (n : Node) → slice_get s.nodes j ≡ Some n → OutAt n (side j s.history) (side j p.stage.history)
  pub moments : (j : ℕ) → moment j p.stage.history ≡ moment j s.history
  pub rest : p.stage ≡ record s { history = p.stage.history }

module _ (c : CallName) (s : Setup) (peer : Host) (service now then : ℕ) (from : Host) (h g later last : List Event)
    (ds : List Datagram) (ms : List Message) where
  end_moved : now ≡ then → h ≡ g → later ≡ last → EndPolled s c peer service now from h later ds ms
      → EndPolled s c peer service then from g last ds ms
  end_moved at front back left =
      subst (λ (n : ℕ). EndPolled s c peer service n from g last ds ms) at
      (subst (λ (x : List Event). EndPolled s c peer service now from x last ds ms) front
      (subst (λ (x : List Event). EndPolled s c peer service now from h x ds ms) back left))

out_moved : (n : Node) (h g later last : List Event) → h ≡ g → later ≡ last → OutAt n h later → OutAt n g last
out_moved n h g later last front back out =
    subst (λ (x : List Event). OutAt n x last) front (subst (λ (x : List Event). OutAt n h x) back out)

module _ (c : CallName) (k : ℕ) (client server : Node) (s : Stage) (p : Polled) (scene : OneOf c k client server s)
    (peer : Host) (service : ℕ) (conn : ConnIs (looks_of s (suc k) client) (connection_of c) peer service) where
  fits_at : (j : ℕ) (n : Node) → slice_get s.nodes j ≡ Some n → FitsSetup n.setup
  fits_at j n there =
      if-some (slice_get s.nodes j) n (λ m. FitsSetup m.setup) there (scene.world.sides.nodes_are.fits j)

  legal_at : (j : ℕ) (n : Node) → slice_get s.nodes j ≡ Some n → Legal n.setup (side j s.history)
  legal_at j n there =
      if-some (slice_get s.nodes j) n (λ m. Legal m.setup (side j s.history)) there (scene.world.sides.legal j)

  mute_at : (j : ℕ) (n : Node) → slice_get s.nodes j ≡ Some n → IsMute n.setup.class
  mute_at j n there = null_mute n.setup.class (if-some (slice_get s.nodes j) n IsPlain there (scene.plain j)).open_

  -- a node that isn't the first is a client
  client_at : (j : ℕ) (n : Node) → j ≢ 0 → slice_get s.nodes j ≡ Some n → IsClientAt n.host n.setup.kind
  client_at zero n some there = absurd (some refl)
  client_at (suc j) n some there =
      if-some (slice_get s.nodes (suc j)) n (λ m. IsClientAt m.host m.setup.kind) there
      (scene.world.sides.nodes_are.clients j)

  serves : IsServer server.setup.kind
  serves =
      and-some (slice_get s.nodes 0) server (λ n. IsServer n.setup.kind) scene.server_there
      scene.world.sides.nodes_are.server

  server_home : IsHome server.host server.setup.kind
  server_home = of server.setup.kind serves
    where
      of : (kind : Kind) → IsServer kind → IsHome server.host kind
      of (Server its nonces) is = tt
      of (Client host epoch) is = absurd is

  client_home : IsHome client.host client.setup.kind
  client_home = of client.setup.kind (client_at (suc k) client (λ is. omega arith) scene.client_there)
    where
      of : (kind : Kind) → IsClientAt client.host kind → IsHome client.host kind
      of (Server its nonces) is = tt
      of (Client host epoch) is = is

  other_at : (j : ℕ) → j ≢ 0 → j ≢ suc k → j < length s.nodes → OtherAt c j s
  other_at j apart differ low =
      let n = nth_there s.nodes j low in
      let its = is_client_of n.0.host n.0.setup.kind (client_at j n.0 apart n.1) in
      record {
        node = n.0;
        there = n.1;
        fits = fits_at j n.0 n.1;
        legal = legal_at j n.0 n.1;
        epoch = its.0;
        kind = its.1;
        apart = subst (λ (q : Kind). AreApart q (Client c.host c.epoch)) its.1
            (subst (λ (q : Kind). AreApart n.0.setup.kind q) scene.client_is
            (if-some (slice_get s.nodes (suc k)) client (λ o. AreApart n.0.setup.kind o.setup.kind) scene.client_there
            (if-some (slice_get s.nodes j) n.0 (λ m. IfSome (slice_get s.nodes (suc k))
            (λ o. AreApart m.setup.kind o.setup.kind)) n.1 (scene.world.apart j (suc k) differ))));
      }
    where
      is_client_of : (at : Host) (kind : Kind) → IsClientAt at kind → (epoch : ℕ) × (kind ≡ Client at epoch)
      is_client_of at (Server its nonces) is = absurd is
      is_client_of at (Client host epoch) is = (epoch, ap (λ (x : Host). Client x epoch) is)

  -- the polls of one node, from where its side is as at the scene
  end_at : (its : Host) (of : ℕ) (j : ℕ) (n : Node) (u v : Polled) → slice_get s.nodes j ≡ Some n
      → IsHome n.host n.setup.kind → ConnIs (looks_of s j n) (connection_of c) its of → u.stage.nodes ≡ s.nodes
      → side j u.stage.history ≡ side j s.history → Made (polls_out j) u v → EndTurn c its of j n u v
  end_at its of j n u v there home at nodes same made =
      end_polls c its of j n u v (ap (λ (ns : List Node). slice_get ns j) nodes ∙ there) (fits_at j n there)
      (mute_at j n there) (subst (Legal n.setup) (sym same) (legal_at j n there)) home
      (subst (λ (h : List Event). ConnIs (looks n.setup h) (connection_of c) its of) (sym same) at) made

  module _ (more : ℕ) (many : length s.nodes ≡ suc (k + suc more)) where
    abbrev first : List ℕ
    first = from_on 1 k

    abbrev last : List ℕ
    last = from_on (suc (suc k)) more

    abbrev behind_client : List ℕ
    behind_client = last ++ 0 ∷ []

    parts : from_on 1 (k + suc more) ++ 0 ∷ [] ≡ first ++ (suc k ∷ behind_client)
    parts =
        ap (λ (ns : List ℕ). ns ++ 0 ∷ []) (from_parts 1 k (suc more))
        ∙ (let at : 1 + k ≡ suc k = omega arith in
        ap (λ (i : ℕ). (first ++ (i ∷ from_on (suc i) more)) ++ 0 ∷ []) at)
        ∙ append_assoc first (suc k ∷ last) (0 ∷ [])

    apart : AreDistinct first × AreDistinct (suc k ∷ behind_client)
        × ((j : ℕ) → In j first → IsNone j (suc k ∷ behind_client))
    apart = apart_parts first (suc k ∷ behind_client) (subst AreDistinct parts (order_apart (k + suc more)))

    rest_apart : AreDistinct last × AreDistinct (0 ∷ []) × ((j : ℕ) → In j last → IsNone j (0 ∷ []))
    rest_apart = apart_parts last (0 ∷ []) (apart.1).1

    low_in : (j : ℕ) → In j (first ++ (suc k ∷ behind_client)) → j < length s.nodes
    low_in j there =
        subst (λ (n : ℕ). j < n) (sym many)
        (low_order (k + suc more) j (subst (λ (ns : List ℕ). In j ns) (sym parts) there))

    in_last : (j : ℕ) → In j last → In j (suc k ∷ behind_client)
    in_last j there = inr (in_front j last (0 ∷ []) there)

    zero_in : In 0 (suc k ∷ behind_client)
    zero_in = inr (in_behind 0 last (0 ∷ []) (inl refl))

    -- a node before the client's is another than each from it on
    none_first : (j : ℕ) → In j (suc k ∷ behind_client) → IsNone j first
    none_first j there =
        in_none j first (λ i here is. none_in i (suc k ∷ behind_client) j (apart.2 i here) there (sym is))

    first_other : (j : ℕ) → In j first → OtherAt c j s
    first_other j there =
        other_at j (λ is. none_in j (suc k ∷ behind_client) 0 (apart.2 j there) zero_in (sym is))
        (λ is. (apart.2 j there).0 (sym is)) (low_in j (in_front j first (suc k ∷ behind_client) there))

    last_other : (j : ℕ) → In j last → OtherAt c j s
    last_other j there =
        other_at j (λ is. (rest_apart.2 j there).0 (sym is))
        (λ is. none_in (suc k) behind_client j (apart.1).0 (in_front j last (0 ∷ []) there) is)
        (low_in j (in_behind j first (suc k ∷ behind_client) (in_last j there)))

    -- each of them was polled out
    all_outs : (u v w t : Stage)
        → ((j : ℕ) (n : Node) → In j first → slice_get s.nodes j ≡ Some n
        → OutAt n (side j s.history) (side j u.history))
        → OutAt client (side (suc k) u.history) (side (suc k) v.history)
        → ((j : ℕ) (n : Node) → In j last → slice_get s.nodes j ≡ Some n
        → OutAt n (side j v.history) (side j w.history))
        → OutAt server (side 0 w.history) (side 0 t.history)
        → ((j : ℕ) → IsNone j first → side j u.history ≡ side j s.history)
        → ((j : ℕ) → suc k ≢ j → side j v.history ≡ side j u.history)
        → ((j : ℕ) → IsNone j last → side j w.history ≡ side j v.history)
        → ((j : ℕ) → 0 ≢ j → side j t.history ≡ side j w.history)
        → (j : ℕ) (n : Node) → slice_get s.nodes j ≡ Some n → OutAt n (side j s.history) (side j t.history)
    all_outs u v w t fs x bs y su sv sw st j n there =
        by (subst (λ (ns : List ℕ). In j ns) parts
        (in_order (k + suc more) j (subst (λ (size : ℕ). j < size) many (nth_low s.nodes j n there))))
      where
        in_first : In j first → OutAt n (side j s.history) (side j t.history)
        in_first here =
            let none = apart.2 j here in
            out_moved n _ _ _ _ refl
            (sym (st j (none_in j (suc k ∷ behind_client) 0 none zero_in)
            ∙ sw j (in_none j last (λ i below is. none_in j (suc k ∷ behind_client) i none (in_last i below) is))
            ∙ sv j none.0)) (fs j n here there)

        is_client : j ≡ suc k → OutAt n (side j s.history) (side j t.history)
        is_client same =
            let one : client ≡ n = node_is client n
            (sym scene.client_there ∙ ap (slice_get s.nodes) (sym same) ∙ there) in
            let none : IsNone (suc k) last =
            in_none (suc k) last (λ i below is. none_in (suc k) behind_client i (apart.1).0
            (in_front i last (0 ∷ []) below) is) in
            subst (λ (i : ℕ). OutAt n (side i s.history) (side i t.history)) (sym same)
            (subst (λ (m : Node). OutAt m (side (suc k) s.history) (side (suc k) t.history)) one
            (out_moved client _ _ _ _ (su (suc k) (none_first (suc k) (inl refl)))
            (sym (st (suc k) (λ is. omega arith) ∙ sw (suc k) none)) x))

        in_rest : In j last → OutAt n (side j s.history) (side j t.history)
        in_rest here =
            out_moved n _ _ _ _
            (sv j (λ is. none_in (suc k) behind_client j (apart.1).0 (in_front j last (0 ∷ []) here) (sym is))
            ∙ su j (none_first j (in_last j here)))
            (sym (st j (rest_apart.2 j here).0)) (bs j n here there)

        is_server : j ≡ 0 → OutAt n (side j s.history) (side j t.history)
        is_server same =
            let one : server ≡ n = node_is server n
            (sym scene.server_there ∙ ap (slice_get s.nodes) (sym same) ∙ there) in
            let none : IsNone 0 last = in_none 0 last (λ i below is. (rest_apart.2 i below).0 (sym is)) in
            subst (λ (i : ℕ). OutAt n (side i s.history) (side i t.history)) (sym same)
            (subst (λ (m : Node). OutAt m (side 0 s.history) (side 0 t.history)) one
            (out_moved server _ _ _ _ (sw 0 none ∙ sv 0 (λ is. omega arith) ∙ su 0 (none_first 0 zero_in)) refl y))

        by : In j (first ++ (suc k ∷ behind_client)) → OutAt n (side j s.history) (side j t.history)
        by here =
            ⊎_elim in_first
            (λ (h1 : In j (suc k ∷ behind_client)). ⊎_elim is_client
            (λ (h2 : In j behind_client). ⊎_elim in_rest
            (λ (h3 : In j (0 ∷ [])). ⊎_elim is_server (λ none. absurd none) h3)
            (in_either j last (0 ∷ []) h2)) h1)
            (in_either j first (suc k ∷ behind_client) here)

    seen : Made polls s p → RoundGiven c k client server peer service s p
    seen made =
        let start : Polled = record { stage = s; given = [] } in
        let all : each polls_out (first ++ (suc k ∷ behind_client)) start made.0 (To p) =
        subst (λ (ns : List ℕ). each polls_out ns start made.0 (To p)) (order_is s (k + suc more) many ∙ parts)
        made.1 in
        let a =
        other_outs c first (suc k ∷ behind_client) start p apart.0 first_other (made.0, all) in
        let b = then_to (polls_out (suc k) a.between) (each polls_out behind_client) a.onward.0 p a.onward.1 in
        let nodes_a : a.between.stage.nodes ≡ s.nodes = ap (λ (u : Stage). u.nodes) a.first.rest in
        let x = end_at peer service (suc k) client a.between b.between scene.client_there client_home conn nodes_a
        (a.first.sides (suc k) (none_first (suc k) (inl refl))) (b.front, b.made) in
        let nodes_b : b.between.stage.nodes ≡ s.nodes = ap (λ (u : Stage). u.nodes) x.out.rest ∙ nodes_a in
        let side_b : (j : ℕ) → j ≢ suc k → IsNone j first → side j b.between.stage.history ≡ side j s.history =
        λ j differ none. x.out.others j (λ is. differ (sym is)) ∙ a.first.sides j none in
        let c2 = other_outs c last (0 ∷ []) b.between p rest_apart.0 (λ j there.
        other_stays c j s b.between.stage nodes_b (side_b j
        (λ is. none_in (suc k) behind_client j (apart.1).0 (in_front j last (0 ∷ []) there) is)
        (none_first j (in_last j there))) (last_other j there)) (b.rest, b.goes) in
        let d = then_to (polls_out 0 c2.between) (each polls_out []) c2.onward.0 p c2.onward.1 in
        let end : p ≡ d.between = ends_to d.between p d.rest d.goes in
        let nodes_c : c2.between.stage.nodes ≡ s.nodes = ap (λ (u : Stage). u.nodes) c2.first.rest ∙ nodes_b in
        let none_0 : IsNone 0 last = in_none 0 last (λ i here is. (rest_apart.2 i here).0 (sym is)) in
        let zero_apart : 0 ≢ suc k = λ is. omega arith in
        let side_c0 : side 0 c2.between.stage.history ≡ side 0 s.history =
        c2.first.sides 0 none_0 ∙ side_b 0 zero_apart (none_first 0 zero_in) in
        let conn_y = server_conn server.setup (side 0 s.history) c serves (fits_at 0 server scene.server_there)
        (legal_at 0 server scene.server_there) in
        let y = end_at c.host conn_y.0 0 server c2.between d.between scene.server_there server_home conn_y.1 nodes_c
        side_c0 (d.front, d.made) in
        let last_side : (j : ℕ) → j ≢ 0 → side j p.stage.history ≡ side j c2.between.stage.history =
        λ j differ. ap (λ (q : Polled). side j q.stage.history) end ∙ y.out.others j (λ is. differ (sym is)) in
        let none_last : IsNone (suc k) last =
        in_none (suc k) last (λ i here is. none_in (suc k) behind_client i (apart.1).0
        (in_front i last (0 ∷ []) here) is) in
        record {
          front = a.first.gave;
          by_client = x.gave;
          middle = c2.first.gave;
          by_server = y.gave;
          given = ap (λ (q : Polled). q.given) end
              ∙ then_four a.between.given b.between.given c2.between.given d.between.given a.first.gave x.gave
              c2.first.gave y.gave a.first.then_ x.then_ c2.first.then_ y.then_;
          by_client_given = subst (λ (h : List Event). Every (IsGivenBy client.host h) x.gave)
              (sym (last_side (suc k) (λ is. omega arith) ∙ c2.first.sides (suc k) none_last)) x.given_by;
          by_server_given = subst (λ (q : Polled). Every (IsGivenBy server.host (side 0 q.stage.history)) y.gave)
              (sym end) y.given_by;
          front_others = a.first.others;
          middle_others = c2.first.others;
          asks = x.messages;
          client_left = end_moved c client.setup peer service _ _ client.host _ _ _ _ x.gave x.messages
              (a.first.moments (suc k))
              (a.first.sides (suc k) (none_first (suc k) (inl refl)))
              (sym (last_side (suc k) (λ is. omega arith) ∙ c2.first.sides (suc k) none_last)) x.left;
          its = conn_y.0;
          answers = y.messages;
          server_left = end_moved c server.setup c.host conn_y.0 _ _ server.host _ _ _ _ y.gave y.messages
              (c2.first.moments 0 ∙ x.out.moments 0 ∙ a.first.moments 0) side_c0
              (sym (ap (λ (q : Polled). side 0 q.stage.history) end)) y.left;
          outs = all_outs a.between.stage b.between.stage c2.between.stage p.stage
              (λ j n here there. a.first.outs j n here there) x.out.at
              (λ j n here there. c2.first.outs j n here (ap (λ (ns : List Node). slice_get ns j) nodes_b ∙ there))
              (subst (λ (q : Polled). OutAt server (side 0 c2.between.stage.history)
              (side 0 q.stage.history)) (sym end)
              y.out.at)
              a.first.sides x.out.others c2.first.sides
              (λ j differ. ap (λ (q : Polled). side j q.stage.history) end ∙ y.out.others j differ);
          moments = λ j. ap (λ (q : Polled). moment j q.stage.history) end ∙ y.out.moments j ∙ c2.first.moments j
              ∙ x.out.moments j ∙ a.first.moments j;
          rest = ap (λ (q : Polled). q.stage) end
              ∙ rest_both s c2.between.stage d.between.stage
              (rest_both s b.between.stage c2.between.stage
              (rest_both s a.between.stage b.between.stage a.first.rest x.out.rest) c2.first.rest) y.out.rest
              ∙ ap (λ (q : Polled). record s { history = q.stage.history }) (sym end);
        }

-- all nodes are polled
pub round_given : (c : CallName) (k : ℕ) (client server : Node) (s : Stage) (p : Polled) → OneOf c k client server s
    → Made polls s p → (peer : Host) (service : ℕ) → ConnIs (looks_of s (suc k) client) (connection_of c) peer service
    → RoundGiven c k client server peer service s p
round_given c k client server s p scene made peer service conn =
    (let size = sizes (length s.nodes) (nth_low s.nodes (suc k) client scene.client_there) in
    seen c k client server s p scene peer service conn size.0 size.1 made)
  where
    sizes : (size : ℕ) → suc k < size → (more : ℕ) × (size ≡ suc (k + suc more))
    sizes size low = (size - (k + 2), omega arith)
