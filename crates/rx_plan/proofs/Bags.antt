-- The datagrams that were given stay given, and a history behind events.
use Rattle.std.proofs.Common.{◌≡◌, ℕ, List, [], ◌∷◌, ◌++◌, reverse, Option, Some, None, refl, sym, ◌∙◌, ap}
use Rattle.std.proofs.Common.{append_assoc, slice_get, Contains, append-nil}
use Rattle.std.proofs.lemmas.List.{reverse-append}
use Rattle.std.proofs.lemmas.List.Elements.{Contains-append_left, Contains-append_right, Contains-push}
use Rattle.rx_model.specs.declared.event.Event.{Event}
use Rattle.rx_model.specs.declared.event.Event.TheVariants as events
use Rattle.rx_model.specs.declared.event.Noted.{Noted}
use Rattle.rx_model.specs.declared.names.Host.{Host}
use Rattle.rx_history.specs.Sides.{Node}
use Rattle.rx_law.specs.Worlds.{Carried, Datagram, bag, given_at, with_given}

-- ---- a history behind events, the first one first

abbrev pub behind : List Noted → List Noted → List Noted
behind [] h = h
behind (e ∷ es) h = behind es (e ∷ h)

pub behind_both : (es more h : List Noted) → behind (es ++ more) h ≡ behind more (behind es h)
behind_both [] more h = refl
behind_both (e ∷ es) more h = behind_both es more (e ∷ h)

behind_on : (es h : List Noted) → behind es h ≡ reverse es ++ h
behind_on [] h = refl
behind_on (e ∷ es) h =
    behind_on es (e ∷ h) ∙ sym (append_assoc (reverse es) (e ∷ []) h)
    ∙ ap (λ xs. xs ++ h) (sym (reverse-append (e ∷ []) es))

pub behind_none : (es : List Noted) → behind es [] ≡ reverse es
behind_none es = behind_on es [] ∙ append-nil (reverse es)

-- ---- what was given

with_more : (from : Host) (e : Event) (ds : List Datagram) (d : Datagram) → Contains ds d
    → Contains (with_given from e ds) d
with_more from (events.Polled (Some (to, bytes))) ds d there =
    Contains-append_right (record { from = from; to = to; bytes = bytes } ∷ []) ds d there
with_more from (events.Polled None) ds d there = there
with_more from e ds d there = there

given_more : (o : Option Node) (e : Event) (ds : List Datagram) (d : Datagram) → Contains ds d
    → Contains (given_at o e ds) d
given_more None e ds d there = there
given_more (Some n) e ds d there = with_more n.host e ds d there

pub in_more : (nodes : List Node) (e : Noted) (h : List Noted) (d : Datagram) → Contains (bag nodes h) d
    → Contains (bag nodes (e ∷ h)) d
in_more nodes e h d there = given_more (slice_get nodes e.node) e.event (bag nodes h) d there

pub in_behind : (nodes : List Node) (es h : List Noted) (d : Datagram) → Contains (bag nodes h) d
    → Contains (bag nodes (behind es h)) d
in_behind nodes [] h d there = there
in_behind nodes (e ∷ es) h d there = in_behind nodes es (e ∷ h) d (in_more nodes e h d there)

-- a poll of a node gives from its host
pub in_given : (n : Node) (to : Host) (bytes : List ℕ) (ds : List Datagram)
    → Contains (given_at (Some n) (events.Polled (Some (to, bytes))) ds)
    (record { from = n.host; to = to; bytes = bytes })
in_given n to bytes ds =
    Contains-append_left (record { from = n.host; to = to; bytes = bytes } ∷ []) ds _ (Contains-push [] _)

-- what is carried was carried at each earlier moment
pub carried_before : (nodes : List Node) (later now : List Noted) → Carried nodes (later ++ now) → Carried nodes now
carried_before nodes [] now c = c
carried_before nodes (e ∷ later) now c = carried_before nodes later now c.1
