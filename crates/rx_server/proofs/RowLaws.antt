-- The rows of a message at a server, and its call where its connection was entered and used first.
use Rattle.std.proofs.Common.{◌≡◌, ◌⊎◌, ◌≤◌, ◌&&◌, ◌+◌, ℕ, if◌then◌else◌, not}
use Rattle.std.proofs.Common.{is_some, Bool, true, false}
use Rattle.std.proofs.Common.{List, refl, inl, inr, arith}
use Rattle.std.proofs.lemmas.Bool.Decides.{nat_tests}
use Rattle.rx_model.specs.declared.pace.Pace.{Pace}
use Rattle.rx_model.specs.declared.answers.Took.{Took}
use Rattle.rx_model.specs.declared.answers.Took.TheVariants as tooks
use Rattle.rx_model.specs.declared.names.CallName.{CallName}
use Rattle.rx_model.specs.Body as bodies
use Rattle.rx_model.specs.Message.{Message}
use Rattle.rx_model.specs.Names.{Connection}
use Rattle.rx_rules.specs.After.{enters, prepared}
use Rattle.rx_rules.specs.CallLooks.{CallLooks, NodeView, arrival, found, freed, fresh_call, packet_of}
use Rattle.rx_rules.specs.Life.{Life}
use Rattle.rx_rules.specs.Judging.{Facts, end_row}
use Rattle.rx_rules.specs.Judging.{server_row}
use Rattle.rx_rules.specs.Looks.{Looks, conn_at}
use Rattle.rx_rules.specs.Records.{entered, used}
use Rattle.rx_rules.specs.Setup.{Setup, is_client, receiving_window}
use Rattle.rx_rules.specs.Received.{Arrival, Packet, arrival_row}
use Rattle.rx_model.specs.declared.wire.TheConstants.{LAST_SEQ}
use Rattle.rx_history.proofs.Rows.RowsInFront.{may_start}
use Rattle.rx_rules.specs.Slots.{node_view}

-- ---- a place for the connection is looked for last

-- the rows, where it was not looked for
abbrev pub early : Facts → Facts
early f = record f { has_place = true }

-- where it is there they are the rules'
pub row_placed : (f : Facts) (call : Took) → (f.is_known ≡ true) ⊎ (f.has_place ≡ true)
    → server_row (early f) call ≡ server_row f call
row_placed f call (inl known) = rw known refl
row_placed f call (inr place) = rw place refl

-- where it isn't, a message that would have been let through finds no place
pub row_full : (f : Facts) (call : Took) → f.is_known ≡ false → f.has_place ≡ false
    → (server_row (early f) call ≡ tooks.Strange → ⊥)
    → server_row f call ≡ tooks.Full
row_full f call unknown full other =
    (elim (not f.is_known && not (f.can_start && f.has_number)) as
    (λ b. (not f.is_known && not (f.can_start && f.has_number)) ≡ b → server_row f call ≡ tooks.Full) [
      | true ↦ λ is. absurd (other (rw is refl))
      | false ↦ λ is. rw (is, unknown, full) refl
    ]) refl

-- ---- the connection of a message is used, and entered where a call may start

-- where it is known it isn't entered
pub prepared_known : (s : Setup) (got : Took) (x : Connection) (l : Looks) → is_some (conn_at l x) ≡ true
    → prepared s got x l ≡ used x (entered s x l)
prepared_known s got x l known =
    (elim (enters got) as (λ b. used x (if b then entered s x l else l) ≡ used x (entered s x l)) [
      | true ↦ refl
      | false ↦ rw known refl
    ])

-- where the answer enters it
pub prepared_enters : (s : Setup) (got : Took) (x : Connection) (l : Looks) → enters got ≡ true
    → prepared s got x l ≡ used x (entered s x l)
prepared_enters s got x l enter = rw enter refl

-- ---- a call that starts

-- its first packet within the window is kept, or has no slot
pub fresh_row : (s : Setup) (l : Looks) (name : CallName) (life : Life) (pace : Pace)
    (now : ℕ) (m : Message) (payload : List ℕ)
    → is_client s.kind ≡ false → 1 ≤ m.seq → m.seq ≤ receiving_window s → receiving_window s ≤ LAST_SEQ
    → may_start (end_row s l (record { name = name; life = life; looks = fresh_call pace now })
    (record m { body = bodies.Chunk payload })) ≡ true
fresh_row s l name life pace now m payload server low high fits = of refl refl refl refl
  where
    v : NodeView
    v = node_view s l

    k : CallLooks
    k = fresh_call pace now

    p : Packet
    p = packet_of m payload

    a : Arrival
    a = arrival v.client v.window (v.left + freed v.client k) p (found v.client k)

    of : (strange : a.is_strange ≡ a.is_strange) (again : a.is_repeat ≡ a.is_repeat) (far : a.is_beyond ≡ a.is_beyond)
        (clash : a.is_clash ≡ a.is_clash) → may_start (arrival_row a) ≡ true
    of x y z w = rw (no-strange, no-repeat, no-beyond, no-clash) (slot a.has_slot)
      where
        slot : (b : Bool) → may_start (if b then tooks.Kept else tooks.NoSlot) ≡ true
        slot true = refl
        slot false = refl

        no-strange : a.is_strange ≡ false
        no-strange = rw server (grind (arith, nat_tests))

        no-repeat : a.is_repeat ≡ false
        no-repeat = grind (arith, nat_tests)

        no-beyond : a.is_beyond ≡ false
        no-beyond = grind (arith, nat_tests)

        no-clash : a.is_clash ≡ false
        no-clash = grind (arith, nat_tests)
