-- What a client takes, gives, and hears of its clock brings no call to life, and leaves each channel its number.
use Rattle.std.proofs.Common.{◌≡◌, if◌then◌else◌, nat_lt, is_some, ℕ, Bool, true, false, List, Option, Some, None}
use Rattle.std.proofs.Common.{Result, Ok, Err, refl, sym, subst}
use Rattle.rx_model.specs.declared.answers.BadMsg.{BadMsg}
use Rattle.rx_model.specs.declared.answers.Took.{Took}
use Rattle.rx_model.specs.declared.answers.Took.TheVariants as tooks
use Rattle.rx_model.specs.declared.event.Event.{Event}
use Rattle.rx_model.specs.declared.event.Event.TheVariants as events
use Rattle.rx_model.specs.declared.names.CallName.{CallName}
use Rattle.rx_model.specs.declared.names.Host.{Host}
use Rattle.rx_model.specs.Message.{Message}
use Rattle.rx_model.specs.Names.{Connection, channel_of, connection_of}
use Rattle.rx_model.specs.Reading.{reading_of}
use Rattle.rx_model.proofs.NameLaws.{name_itself}
use Rattle.rx_rules.specs.After.{after, enters, prepared, taken_behind, taken_data, taken_message, taken_with}
use Rattle.rx_rules.specs.Judging.{opened, outer_row, took_of}
use Rattle.rx_rules.specs.Looks.{Looks, channel_at, conn_at}
use Rattle.rx_rules.specs.Records.{entered, started_later, with_conn}
use Rattle.rx_rules.specs.Rules.{AllowedClient}
use Rattle.rx_rules.specs.Setup.{Client, Kind, Setup, named}
use Rattle.rx_history.proofs.Dimensions.Dims.{Dims, dims_refl, dims_trans}
use Rattle.rx_history.proofs.Dimensions.DimsEvents.{polled_dims}
use Rattle.rx_history.proofs.Dimensions.DimsTaken.{data_dims, turned_dims, used_dims, with_dims}
use Rattle.rx_history.proofs.Rows.RowsInFront.{may_start}
use Rattle.rx_plan.proofs.ClientEnds.{starts_none}

module _ (s : Setup) (host : Host) (epoch : ℕ) (kind : s.kind ≡ Client host epoch) where
  module _ (l : Looks) (from : Host) (bytes : List ℕ) (got : Took) (is : got ≡ took_of s l from bytes) where
    -- a message's connection isn't entered anew
    prepared_dims : (x : Connection) → Dims l (prepared s got x l)
    prepared_dims x =
        dims_trans l at (prepared s got x l) (of (enters got)) (used_dims x at)
      where
        at : Looks
        at = if enters got then entered s x l else l

        by : (b : Bool) → Dims l (if b then l else with_conn s s.kind x l)
        by true = dims_refl l
        by false = subst (λ (k : Kind). Dims l (with_conn s k x l)) (sym kind) (dims_refl l)

        of : (b : Bool) → Dims l (if b then entered s x l else l)
        of true = by (is_some (conn_at l x))
        of false = dims_refl l

    module _ (m : Message) (reads : reading_of bytes ≡ Ok m) where
      abbrev d : CallName
      d = named s from m

      abbrev ready : Looks
      ready = prepared s got (connection_of d) l

      -- data of a call that is there
      of_data : (row : Took) → (nat_lt (channel_at ready (channel_of d)).number d.number ≡ true → ⊥)
          → Dims ready (taken_data s row d m (opened s d ready))
      of_data row =
          elim (nat_lt (channel_at ready (channel_of d)).number d.number)
          as (λ b. (b ≡ true → ⊥) → Dims ready (taken_data s row d m (if b then started_later s d ready else ready))) [
            | true ↦ λ no. absurd (no refl)
            | false ↦ λ no. data_dims s row d m ready
          ]

      started : (row : Took) → may_start row ≡ true
          → (nat_lt (channel_at ready (channel_of d)).number d.number ≡ true → ⊥)
          → Dims ready (taken_with s row d m ready)
      started tooks.Kept may none = of_data tooks.Kept none
      started tooks.NoSlot may none = of_data tooks.NoSlot none
      started _ may none = absurd cc

      behind : (row : Option Took) → outer_row s s.kind l from m ≡ row → Dims l (taken_behind s row from d m got l)
      behind (Some row) front = turned_dims row from m l
      behind None front =
          dims_trans l ready (taken_with s got d m ready) (prepared_dims (connection_of d)) (by (may_start got) refl)
        where
          by : (b : Bool) → may_start got ≡ b → Dims ready (taken_with s got d m ready)
          by false other = with_dims s got d m ready other
          by true starts =
              started got starts
              (λ above. starts_none s host epoch kind l from bytes got m d is reads front starts (name_itself d) above)

    -- a datagram is taken
    taken_dims : Dims l (taken_message s from (reading_of bytes) got l)
    taken_dims = of (reading_of bytes) refl
      where
        of : (reading : Result Message BadMsg) → reading_of bytes ≡ reading
            → Dims l (taken_message s from reading got l)
        of (Err bad) reads = dims_refl l
        of (Ok m) reads = behind m reads (outer_row s s.kind l from m) refl

  pub client_takes : (l : Looks) (from : Host) (bytes : List ℕ) (got : Took)
      → AllowedClient s host epoch l (events.Taken from bytes got) → Dims l (after s (events.Taken from bytes got) l)
  client_takes l from bytes got allowed = taken_dims l from bytes got allowed.1

  pub client_gives : (l : Looks) (got : Option (Host × List ℕ)) → Dims l (after s (events.Polled got) l)
  client_gives l got = polled_dims s got l
