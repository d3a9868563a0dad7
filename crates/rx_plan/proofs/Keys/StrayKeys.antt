-- A stray abort of a client's connection means that one of client and server has a key, and the other has none.
use Rattle.std.proofs.Common.{Bool, IfSome, List, None, Option, Some, [], ap, false, slice_get, subst, sym, true}
use Rattle.std.proofs.Common.{append_assoc, ℕ, ◌&&◌, ◌++◌, ◌==◌, ◌∙◌, ◌∷◌, ◌≡◌, ◌≢◌}
use Rattle.rx_model.specs.declared.event.Event.TheVariants as events
use Rattle.rx_model.specs.declared.event.Noted.{Noted}
use Rattle.rx_model.specs.declared.stray.Stray.{Stray}
use Rattle.rx_model.specs.Names.{Connection}
use Rattle.rx_model.proofs.NameLaws.{number_itself}
use Rattle.rx_rules.specs.After.{looks}
use Rattle.rx_rules.specs.Classes.{Class}
use Rattle.rx_rules.specs.Judging.{outer_row}
use Rattle.rx_rules.specs.Rules.{Legal}
use Rattle.rx_rules.specs.Setup.{Client, FitsSetup, IsServer, Kind, Server}
use Rattle.rx_rules.proofs.EveryLaws.{Every}
use Rattle.rx_history.specs.Sides.{Node, side}
use Rattle.rx_law.specs.Worlds.{AreApart, AreNodes, Carried, Gave, IsFrom, bag}
use Rattle.rx_law.proofs.Joint.{legal-before}
use Rattle.rx_law.proofs.World.{Giver, Mine, gave-mine, if-some, contains-in, giver}
use Rattle.rx_wire.specs.Turns.{noted}
use Rattle.rx_plan.specs.Causes.{OneHasKey}
use Rattle.rx_plan.specs.Follows.{class_of}
use Rattle.rx_plan.proofs.JointMoments.{JointAt, joint_at, legal_cut}
use Rattle.rx_plan.proofs.RowsAsked.{IsOther, unserved_other}
use Rattle.rx_plan.proofs.Keys.ServicesStay.{IsOwnData, LinksTo, data_given}
use Rattle.rx_plan.proofs.Keys.StraysCame.{CameStray}
use Rattle.rx_plan.proofs.Keys.WrongKeys.{giver_is}
use Rattle.rx_jobs.proofs.Driving.{every-back}
use Rattle.rx_law.proofs.Law.{side-split}
use Rattle.rx_plan.proofs.Bags.{carried_before}

-- classes of different index are one of a key and one of none
one_key : (own other : Option (List ℕ)) → ((class_of own).index == (class_of other).index) ≡ false → OneHasKey own other
one_key None None differ = absurd cc
one_key (Some a) None differ = tt
one_key None (Some b) differ = tt
one_key (Some a) (Some b) differ = absurd cc

-- a row of another service or class that is for this service is of another class
other_index : (a b c d : ℕ) → ((a == b) && (c == d)) ≡ false → a ≡ b → (c == d) ≡ false
other_index a b c d test is = of (a == b) (ap (λ (n : ℕ). a == n) (sym is) ∙ number_itself a) test
  where
    of : (t : Bool) → t ≡ true → (t && (c == d)) ≡ false → (c == d) ≡ false
    of true same differ = differ
    of false same differ = absurd cc

module _ (nodes : List Node) (k : ℕ) (client server : Node) (y : Connection) (there : slice_get nodes k ≡ Some client)
    (kind : client.setup.kind ≡ Client y.host y.epoch) (first : slice_get nodes 0 ≡ Some server) (are : AreNodes nodes)
    (apart : (i j : ℕ) → i ≢ j → IfSome (slice_get nodes i) (λ n. IfSome (slice_get nodes j)
    (λ o. AreApart n.setup.kind o.setup.kind))) where
  pub stray_key : (h : List Noted) (service nonces : ℕ) → server.setup.kind ≡ Server service nonces
      → ((j : ℕ) (n : Node) → slice_get nodes j ≡ Some n → Legal n.setup (side j h)) → Carried nodes h
      → Every (LinksTo service) (side k h) → (own other : Option (List ℕ)) → client.setup.class ≡ class_of own
      → server.setup.class ≡ class_of other → (x : Stray) → y.host ≡ x.host → x.epoch ≡ y.epoch
      → CameStray server.setup (side 0 h) x → OneHasKey own other
  stray_key h service nonces serving legal carried links own other own_class other_class x host epoch came =
      one_key own other
      (ap (λ (n : ℕ). n == (class_of other).index) (sym (ap (λ (q : Class). q.index) own_class))
      ∙ ap (λ (n : ℕ). client.setup.class.index == n) (sym (ap (λ (q : Class). q.index) other_class))
      ∙ ap (λ (n : ℕ). n == server.setup.class.index) (sym data_is.of_class)
      ∙ other_index came.message.service service came.message.index server.setup.class.index row.other data_is.for_it)
    where
      now : Noted
      now = noted 0 (events.Taken came.from came.bytes came.got)

      serves : IsServer server.setup.kind
      serves = subst IsServer (sym serving) tt

      j : JointAt 0 h (events.Taken came.from came.bytes came.got) came.before
      j = joint_at 0 h came.later (events.Taken came.from came.bytes came.got) came.before came.is

      row : IsOther server.setup service came.message
      row =
          unserved_other server.setup service came.message
          (ap (λ (q : Kind). outer_row server.setup q (looks server.setup came.before) came.from came.message)
          (sym serving) ∙ came.row)

      contains : IsFrom (bag nodes j.past) server.host (events.Taken came.from came.bytes came.got)
      contains =
          if-some (slice_get nodes 0) server
          (λ n. IsFrom (bag nodes j.past) n.host (events.Taken came.from came.bytes came.got)) first
          (carried_before nodes j.later (now ∷ j.past) (subst (Carried nodes) j.is carried)).0

      legal_then : (i : ℕ) (n : Node) → slice_get nodes i ≡ Some n → Legal n.setup (side i j.past)
      legal_then i n at =
          legal-before n.setup (0 == i) (events.Taken came.from came.bytes came.got) (side i j.past)
          (legal_cut n.setup i j.later (now ∷ j.past)
          (subst (λ (es : List Noted). Legal n.setup (side i es)) j.is (legal i n at)))

      g : Giver nodes (record { from = came.from; to = server.host; bytes = came.bytes }) j.past
      g =
          giver nodes (record { from = came.from; to = server.host; bytes = came.bytes }) j.past
          (contains-in (record { from = came.from; to = server.host; bytes = came.bytes }) (bag nodes j.past) contains.0
          contains.1 contains.2)

      mine : Mine g.node.setup server.host came.message
      mine =
          gave-mine g.node.setup (side g.index j.past) server.host came.bytes came.message
          (if-some (slice_get nodes g.index) g.node (λ o. FitsSetup o.setup) g.there (are.fits g.index))
          (legal_then g.index g.node g.there) g.gave came.reads

      gave : Gave server.host came.bytes (side k j.past)
      gave =
          giver_is nodes k client server y there kind first are apart j.past came.from came.bytes came.message serves g
          (sym mine.flag ∙ row.flagged) (sym (host ∙ ap (λ (q : Stray). q.host) came.stray))
          (sym (ap (λ (q : Stray). q.epoch) came.stray) ∙ epoch) (mine.own came.payload came.chunk)

      data_is : IsOwnData client.setup y.host y.epoch kind service came.message
      data_is =
          data_given client.setup y.host y.epoch kind service (side k j.past) server.host came.bytes came.message
          came.payload (if-some (slice_get nodes k) client (λ o. FitsSetup o.setup) there (are.fits k))
          (legal_then k client there)
          (every-back (LinksTo service) (side k (j.later ++ now ∷ [])) (side k j.past)
          (subst (Every (LinksTo service))
          (ap (side k) (j.is ∙ sym (append_assoc j.later (now ∷ []) j.past))
          ∙ side-split k (j.later ++ now ∷ []) j.past) links)) came.reads came.chunk gave
