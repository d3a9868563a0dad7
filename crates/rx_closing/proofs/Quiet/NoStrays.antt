-- No node of a driven plan without a key owes a stray abort.
use Rattle.std.proofs.Common.{◌≡◌, ◌&&◌, ◌==◌, ◌++◌, ℕ, zero, suc, Bool, true, false, List, [], ◌∷◌, Some, refl, ap}
use Rattle.std.proofs.Common.{sym, subst, ◌∙◌, append_assoc}
use Rattle.std.specs.Prelude.{IfSome, slice_get}
use Rattle.rx_model.specs.declared.event.Event.TheVariants as events
use Rattle.rx_model.specs.declared.event.Noted.{Noted}
use Rattle.rx_model.specs.declared.names.Host.{Host}
use Rattle.rx_model.specs.declared.stray.Stray.{Stray}
use Rattle.rx_model.proofs.NameLaws.{number_itself}
use Rattle.rx_rules.specs.After.{looks}
use Rattle.rx_rules.specs.Classes.{Class}
use Rattle.rx_rules.specs.Judging.{outer_row}
use Rattle.rx_rules.specs.Rules.{Legal}
use Rattle.rx_rules.specs.Setup.{Client, FitsSetup, IsServer, Kind, Server}
use Rattle.rx_rules.proofs.EveryLaws.{Every}
use Rattle.rx_history.specs.Sides.{IsClientAt, Node, side}
use Rattle.rx_law.specs.Worlds.{Carried, IsFrom, World, bag}
use Rattle.rx_law.proofs.Joint.{legal-before}
use Rattle.rx_law.proofs.World.{Giver, Mine, and-some, gave-mine, if-some, contains-in, giver}
use Rattle.rx_wire.specs.Turns.{noted}
use Rattle.rx_plan.proofs.JointMoments.{JointAt, joint_at, legal_cut}
use Rattle.rx_plan.proofs.Keys.PlanKeys.{served_side, service_at}
use Rattle.rx_plan.proofs.QuietEvents.{AreServed}
use Rattle.rx_plan.proofs.RowsAsked.{IsOther, unserved_other}
use Rattle.rx_plan.proofs.Keys.ServicesStay.{IsOwnData, LinksTo, data_given}
use Rattle.rx_plan.proofs.Keys.StraysCame.{CameStray, strays_came}
use Rattle.rx_closing.proofs.Frame.{IsPlain}
use Rattle.rx_closing.proofs.Polls.OtherPolls.{client_strayless}
use Rattle.rx_closing.proofs.Rounds.EventParts.{kind_client}
use Rattle.rx_closing.proofs.Unknown.UnservedMeet.{ServiceOf}
use Rattle.rx_jobs.proofs.Driving.{every-back}
use Rattle.rx_law.proofs.Law.{side-split}
use Rattle.rx_plan.proofs.Bags.{carried_before}

-- a row of another service or class that is for this service is of another class
other_index : (a b c d : ℕ) → ((a == b) && (c == d)) ≡ false → a ≡ b → c ≡ d → ⊥
other_index a b c d test service index =
    by (a == b) (c == d) (ap (λ (n : ℕ). a == n) (sym service) ∙ number_itself a)
    (ap (λ (n : ℕ). c == n) (sym index) ∙ number_itself c) test
  where
    by : (x y : Bool) → x ≡ true → y ≡ true → (x && y) ≡ false → ⊥
    by true true one two never = cc
    by true false one two never = cc
    by false y one two never = cc

module _ (nodes : List Node) (h : List Noted) (world : World nodes h)
    (plain : (j : ℕ) → IfSome (slice_get nodes j) IsPlain) (links : AreServed nodes h) where
  -- the server came to owe none: what each client gives is for its service, of its class
  module _ (server : Node) (first : slice_get nodes 0 ≡ Some server) where
    none_came : (service nonces : ℕ) → server.setup.kind ≡ Server service nonces → (x : Stray)
        → CameStray server.setup (side 0 h) x → ⊥
    none_came service nonces serving x came =
        other_index came.message.service service came.message.index server.setup.class.index row.other data_is.for_it
        (data_is.of_class ∙ ap (λ (q : Class). q.index)
        ((if-some (slice_get nodes g.index) g.node IsPlain g.there (plain g.index)).open_
        ∙ sym (if-some (slice_get nodes 0) server IsPlain first (plain 0)).open_))
      where
        now : Noted
        now = noted 0 (events.Taken came.from came.bytes came.got)

        j : JointAt 0 h (events.Taken came.from came.bytes came.got) came.before
        j = joint_at 0 h came.later (events.Taken came.from came.bytes came.got) came.before came.is

        row : IsOther server.setup service came.message
        row =
            unserved_other server.setup service came.message
            (ap (λ (q : Kind). outer_row server.setup q (looks server.setup came.before) came.from came.message)
            (sym serving) ∙ came.row)

        contains : IsFrom (bag nodes j.past) server.host (events.Taken came.from came.bytes came.got)
        contains =
            if-some (slice_get nodes 0) server
            (λ n. IsFrom (bag nodes j.past) n.host (events.Taken came.from came.bytes came.got)) first
            (carried_before nodes j.later (now ∷ j.past) (subst (Carried nodes) j.is world.carried)).0

        legal_then : (i : ℕ) (n : Node) → slice_get nodes i ≡ Some n → Legal n.setup (side i j.past)
        legal_then i n at =
            legal-before n.setup (0 == i) (events.Taken came.from came.bytes came.got) (side i j.past)
            (legal_cut n.setup i j.later (now ∷ j.past)
            (subst (λ (es : List Noted). Legal n.setup (side i es)) j.is
            (if-some (slice_get nodes i) n (λ m. Legal m.setup (side i h)) at (world.sides.legal i))))

        g : Giver nodes (record { from = came.from; to = server.host; bytes = came.bytes }) j.past
        g =
            giver nodes (record { from = came.from; to = server.host; bytes = came.bytes }) j.past
            (contains-in (record { from = came.from; to = server.host; bytes = came.bytes }) (bag nodes j.past)
            contains.0 contains.1 contains.2)

        fits : FitsSetup g.node.setup
        fits =
            if-some (slice_get nodes g.index) g.node (λ o. FitsSetup o.setup) g.there
            (world.sides.nodes_are.fits g.index)

        mine : Mine g.node.setup server.host came.message
        mine =
            gave-mine g.node.setup (side g.index j.past) server.host came.bytes came.message fits
            (legal_then g.index g.node g.there) g.gave came.reads

        kind : (host : Host) × ((epoch : ℕ) × (g.node.setup.kind ≡ Client host epoch))
        kind = kind_client g.node.setup.kind (sym mine.flag ∙ row.flagged)

        links_then : Every (LinksTo service) (side g.index j.past)
        links_then =
            every-back (LinksTo service) (side g.index (j.later ++ now ∷ [])) (side g.index j.past)
            (subst (Every (LinksTo service))
            (ap (side g.index) (j.is ∙ sym (append_assoc j.later (now ∷ []) j.past))
            ∙ side-split g.index (j.later ++ now ∷ []) j.past)
            (served_side g.index service nodes h (service_at nodes server service nonces first serving) links))

        data_is : IsOwnData g.node.setup kind.0 kind.1.0 kind.1.1 service came.message
        data_is =
            data_given g.node.setup kind.0 kind.1.0 kind.1.1 service (side g.index j.past) server.host came.bytes
            came.message came.payload fits (legal_then g.index g.node g.there) links_then came.reads came.chunk g.gave

    server_strayless : (looks server.setup (side 0 h)).strays ≡ []
    server_strayless = of (looks server.setup (side 0 h)).strays (strays_came server.setup (side 0 h))
      where
        service_of : (kind : Kind) → IsServer kind → ServiceOf kind
        service_of (Server service nonces) is = record { service = service; nonces = nonces; is = refl }
        service_of (Client host epoch) is = absurd is

        its : ServiceOf server.setup.kind
        its =
            service_of server.setup.kind
            (and-some (slice_get nodes 0) server (λ n. IsServer n.setup.kind) first world.sides.nodes_are.server)

        of : (xs : List Stray) → Every (CameStray server.setup (side 0 h)) xs → xs ≡ []
        of [] all = refl
        of (x ∷ xs) all = absurd (none_came its.service its.nonces its.is x all.0)

  -- no node owes any
  pub no_strays : (j : ℕ) (n : Node) → slice_get nodes j ≡ Some n → (looks n.setup (side j h)).strays ≡ []
  no_strays zero n there = server_strayless n there
  no_strays (suc j) n there =
      of n.setup.kind refl (if-some (slice_get nodes (suc j)) n (λ m. IsClientAt m.host m.setup.kind) there
      (world.sides.nodes_are.clients j))
    where
      of : (kind : Kind) → n.setup.kind ≡ kind → IsClientAt n.host kind → (looks n.setup (side (suc j) h)).strays ≡ []
      of (Client host epoch) is at = client_strayless n.setup (side (suc j) h) host epoch is
      of (Server service nonces) is at = absurd at
