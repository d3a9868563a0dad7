-- Where a client gave an ACKALL of a call, the call's reply was read to its end; a server gives none.
use Rattle.std.proofs.Common.{◌≡◌, ℕ, true, List, [], ◌∷◌, Option, Some, None, Ok, refl, ap, sym, subst, ◌∙◌, inl, inr}
use Rattle.rx_model.specs.declared.event.Event.{Event}
use Rattle.rx_model.specs.declared.names.CallName.{CallName}
use Rattle.rx_model.specs.declared.names.Host.{Host}
use Rattle.rx_model.specs.Body as bodies
use Rattle.rx_model.specs.Message.{Message}
use Rattle.rx_model.specs.Names.{same_connection}
use Rattle.rx_model.specs.Reading.{reading_of}
use Rattle.rx_rules.specs.After.{looks}
use Rattle.rx_rules.specs.Looks.{ConnLooks, Looks, call_named, conn_at}
use Rattle.rx_rules.specs.Rules.{AllowedAt, Legal}
use Rattle.rx_rules.specs.Setup.{Setup, Client, FitsSetup, IsServer, named}
use Rattle.rx_rules.proofs.ConnsLaws.{channel_number}
use Rattle.rx_history.proofs.Differ.{every_found}
use Rattle.rx_law.proofs.Joint.{gives-at, polled-is}
use Rattle.rx_law.specs.Worlds.{Gave}
use Rattle.rx_between.proofs.AckAllItems.{OwesAll, polls_ackall}
use Rattle.rx_between.proofs.GivenAcks.{OnlyGrows}
use Rattle.rx_between.proofs.OwedAckAll.{HasEnded, latest_of, owed_ended}
use Rattle.rx_between.proofs.Owing.{OwesNone, channel_owes, owes_of}
use Rattle.rx_between.proofs.ServesOwe.{serves_owe}

-- ---- a client

owes-ended : (s : Setup) (host : Host) (epoch : ℕ) (h : List Event) (c : CallName) → s.kind ≡ Client host epoch
    → FitsSetup s → Legal s h → OwesAll (looks s h) c → HasEnded (looks s h) c
owes-ended s host epoch h c kind fits legal owes =
    let l : Looks = looks s h in
    let owed : owes_of (conn_at l owes.channel.connection) owes.channel.chan ≡ true =
    sym (channel_owes l owes.channel) ∙ owes.owed in
    let ended = owed_ended s host epoch h owes.channel.connection owes.channel.chan kind fits legal owed in
    let name : latest_of l owes.channel.connection owes.channel.chan ≡ c =
    ap (λ (n : ℕ). call_named owes.channel n) (sym (channel_number l owes.channel)) ∙ sym owes.latest in
    subst (λ (d : CallName). HasEnded l d) name ended

-- each ACKALL that a client gave
pub given_ackalls : (s : Setup) (host : Host) (epoch : ℕ) (h : List Event) (c : CallName) (to : Host) (bytes : List ℕ)
    (m : Message) → s.kind ≡ Client host epoch → FitsSetup s → Legal s h → OnlyGrows s c h → reading_of bytes ≡ Ok m
    → m.body ≡ bodies.AckAll → named s to m ≡ c → Gave to bytes h → HasEnded (looks s h) c
given_ackalls s host epoch [] c to bytes m kind fits legal grown reads body name gave = absurd gave
given_ackalls s host epoch (e ∷ h) c to bytes m kind fits legal grown reads body name (inr gave) =
    grown.0.ended (given_ackalls s host epoch h c to bytes m kind fits legal.1 grown.1 reads body name gave)
given_ackalls s host epoch (e ∷ h) c to bytes m kind fits legal grown reads body name (inl gives) =
    let g = gives-at to bytes e gives in
    let answer = polled-is s.kind s (looks s h) g.0
    (subst (λ (x : Event). AllowedAt s.kind s (looks s h) x) g.1 legal.0) in
    let owes = polls_ackall s h fits legal.1 to bytes m reads body (sym answer ∙ g.2) in
    grown.0.ended
    (owes-ended s host epoch h c kind fits legal.1 (subst (λ (d : CallName). OwesAll (looks s h) d) name owes))

-- ---- a server

owes-no : (s : Setup) (h : List Event) (c : CallName) → IsServer s.kind → FitsSetup s → Legal s h
    → OwesAll (looks s h) c → ⊥
owes-no s h c server fits legal owes =
    let l : Looks = looks s h in
    of (conn_at l owes.channel.connection) refl (sym (channel_owes l owes.channel) ∙ owes.owed)
  where
    of : (o : Option ConnLooks) → conn_at (looks s h) owes.channel.connection ≡ o
        → owes_of o owes.channel.chan ≡ true → ⊥
    of None is owed = absurd cc
    of (Some r) is owed =
        let none : OwesNone r =
        every_found OwesNone (λ q. same_connection q.connection owes.channel.connection) (looks s h).conns r
        (serves_owe s h owes.channel.connection server fits legal) is in
        absurd (let no' = none owes.channel.chan in cc (owed, no'))

-- a server gave none
pub no_ackalls : (s : Setup) (h : List Event) (to : Host) (bytes : List ℕ) (m : Message) → IsServer s.kind
    → FitsSetup s → Legal s h → reading_of bytes ≡ Ok m → m.body ≡ bodies.AckAll → Gave to bytes h → ⊥
no_ackalls s [] to bytes m server fits legal reads body gave = gave
no_ackalls s (e ∷ h) to bytes m server fits legal reads body (inr gave) =
    no_ackalls s h to bytes m server fits legal.1 reads body gave
no_ackalls s (e ∷ h) to bytes m server fits legal reads body (inl gives) =
    let g = gives-at to bytes e gives in
    let answer = polled-is s.kind s (looks s h) g.0
    (subst (λ (x : Event). AllowedAt s.kind s (looks s h) x) g.1 legal.0) in
    owes-no s h (named s to m) server fits legal.1
    (polls_ackall s h fits legal.1 to bytes m reads body (sym answer ∙ g.2))
