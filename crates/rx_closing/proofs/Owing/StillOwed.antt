-- What nodes may owe while none of some calls comes further: a server an ABORT of a call that its client asks still, a
-- client an ABORT or an ACKALL of one that is at work at its server; and the streams that were given as they stood.
use Rattle.std.proofs.Common.{◌≡◌, ◌⊎◌, ℕ, zero, suc, true, false, List, Some, Ok}
use Rattle.std.specs.Prelude.{IfSome, slice_get}
use Rattle.rx_model.specs.declared.answers.End.TheVariants as ends
use Rattle.rx_model.specs.declared.event.Noted.{Noted}
use Rattle.rx_model.specs.declared.names.CallName.{CallName}
use Rattle.rx_model.specs.Message.{Message}
use Rattle.rx_model.specs.Reading.{reading_of}
use Rattle.rx_rules.specs.After.{looks}
use Rattle.rx_rules.specs.Life.{is_active}
use Rattle.rx_rules.specs.Life as lives
use Rattle.rx_rules.specs.Looks.{CallRecord}
use Rattle.rx_rules.specs.Setup.{is_client}
use Rattle.rx_history.specs.Sides.{Node, side}
use Rattle.rx_law.specs.Worlds.{AreNodes, Datagram}
use Rattle.rx_plan.specs.Stages.{Stage}
use Rattle.rx_between.proofs.Each.EachItem.{In}
use Rattle.rx_closing.proofs.Frame.{asked_in, served_in}
use Rattle.rx_closing.proofs.Living.CrowdRounds.{IsSome, SaidFor}
use Rattle.rx_closing.proofs.Owing.MayOwe.{EachMay}
use Rattle.rx_closing.proofs.Rounds.Chains.{Adds}
use Rattle.rx_closing.proofs.Together.Members.{Member, names_of}
use Rattle.rx_history.proofs.Plain.PlainBodies.{IsSent}

module _ (server : Node) (ms : List Member) (s : Stage) where
  -- ---- what may be owed

  -- its client asks still
  pub record IsAsked (d : CallName) : Type 0 where
    pub member : Member
    pub inside : In member ms
    pub call : member.call ≡ d
    pub asked : CallRecord
    pub asked_is : asked_in member.call member.index member.client s ≡ Some asked
    pub calls : asked.life ≡ lives.Calling

  -- it is at work at its server, and its client, the node of this number, knows it
  pub record IsServed (j : ℕ) (d : CallName) : Type 0 where
    pub member : Member
    pub inside : In member ms
    pub call : member.call ≡ d
    pub index : suc member.index ≡ j
    pub asked : CallRecord
    pub asked_is : asked_in member.call member.index member.client s ≡ Some asked
    pub served : CallRecord
    pub served_is : served_in member.call server s ≡ Some served
    pub active : is_active served.life ≡ true

  -- and its client has read the reply
  pub record IsReplied (j : ℕ) (d : CallName) : Type 0 where
    pub is : IsServed j d
    pub ended : is.asked.life ≡ lives.Ended ends.Ok

  -- of what a node of this number may owe an ABORT
  abbrev pub AbortAt : ℕ → CallName → Type 0
  AbortAt zero d = IsAsked d
  AbortAt (suc i) d = IsServed (suc i) d

  -- and of what an ACKALL
  abbrev pub AckAllAt : ℕ → CallName → Type 0
  AckAllAt zero d = ⊥
  AckAllAt (suc i) d = IsReplied (suc i) d

  -- each node owes no more
  abbrev pub AllMay : List Noted → Type 0
  AllMay h = (j : ℕ) → IfSome (slice_get s.nodes j) (λ n. EachMay (AbortAt j) (AckAllAt j) (looks n.setup (side j h)))

  -- ---- what was given

  -- the call is asked still, by the client that gave it
  pub record FromClient (m : Member) (n : Node) : Type 0 where
    pub kind : is_client n.setup.kind ≡ true
    pub asked : CallRecord
    pub asked_is : asked_in m.call m.index m.client s ≡ Some asked
    pub calls : asked.life ≡ lives.Calling

  -- the call is at work at the server, which gave it
  pub record FromServer (m : Member) (n : Node) : Type 0 where
    pub kind : is_client n.setup.kind ≡ false
    pub served : CallRecord
    pub served_is : served_in m.call server s ≡ Some served
    pub active : is_active served.life ≡ true

  -- DATA or an ACK of one of the calls, from the one of its ends that gave it
  pub record SaidStill (d : Datagram) (m : Message) : Type 0 where
    pub member : Member
    pub inside : In member ms
    pub said : SaidFor s.nodes member.call s.history d m
    pub gave : FromClient member said.node ⊎ FromServer member said.node

  -- a datagram that was given; of a call's stream it is of one that stands, if the calls stand till the last moment
  pub record IsLively (are : AreNodes s.nodes) (last h : List Noted) (d : Datagram) : Type 0 where
    pub one : IsSome s.nodes are (names_of ms) h d
    pub live :
        Adds h last → (m : Message) → reading_of d.bytes ≡ Ok m → IsSent m.body → SaidStill d m
