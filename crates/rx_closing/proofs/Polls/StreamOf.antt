-- DATA or an ACK that an end of a member gave.
use Rattle.std.proofs.Common.{◌≡◌, List, Ok, subst, sym}
use Rattle.rx_model.specs.declared.event.Noted.{Noted}
use Rattle.rx_model.specs.declared.names.CallName.{CallName}
use Rattle.rx_model.specs.Message.{Message}
use Rattle.rx_model.specs.Reading.{reading_of}
use Rattle.rx_history.specs.Sides.{Node}
use Rattle.rx_law.specs.Worlds.{Datagram}
use Rattle.rx_between.proofs.Each.EachItem.{In}
use Rattle.rx_closing.proofs.Living.CrowdRounds.{SaidFor, SaysFor, SaysSome}
use Rattle.rx_closing.proofs.Together.Members.{Member, names_of}
use Rattle.rx_closing.proofs.Together.MembersHere.{MemberNamed, member_named}
use Rattle.rx_history.proofs.Plain.PlainBodies.{IsSent}

-- a datagram of the call's stream, given at a node at which the call lived, before the history came to this
pub record StreamOf (nodes : List Node) (h : List Noted) (m : Member) (d : Datagram) : Type 0 where
  pub message : Message
  pub reads : reading_of d.bytes ≡ Ok message
  pub stream : IsSent message.body
  pub said : SaidFor nodes m.call h d message

-- one of some members
pub record StreamOfSome (nodes : List Node) (h : List Noted) (ms : List Member) (d : Datagram) : Type 0 where
  pub member : Member
  pub inside : In member ms
  pub of : StreamOf nodes h member d

-- where only members live, what is said of a stream is said of one of theirs
pub stream_of : (nodes : List Node) (h : List Noted) (ms : List Member) (d : Datagram)
    → SaysSome nodes (names_of ms) h d
    → (m : Message) → reading_of d.bytes ≡ Ok m → IsSent m.body → StreamOfSome nodes h ms d
stream_of nodes h ms d says m reads stream =
    (let f : SaysFor nodes (names_of ms) h d m = says m reads stream in
    let n : MemberNamed ms f.name = member_named ms f.name f.inside in
    record {
      member = n.member;
      inside = n.inside;
      of = record {
        message = m;
        reads = reads;
        stream = stream;
        said = subst (λ (c : CallName). SaidFor nodes c h d m) (sym n.call) f.said;
      };
    })
