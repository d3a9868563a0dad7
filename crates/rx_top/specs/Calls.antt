-- What `call` does and leaves, by how it ended. Public clauses cite this module.
use Rattle.std.specs.Prelude.{◌≡◌, ◌⊎◌, ◌≤◌, ◌<◌, ◌^◌, ◌||◌, ◌++◌, ◌+◌, ◌*◌, ℕ, ℤ, Bool, true, false, List, codes}
use Rattle.std.specs.Prelude.{is_some, length, Option, Some, None, Result, Ok, Err, IsSomeAnd, ⊤}
use Rattle.std.specs.String.{string_bytes}
use Rattle.rx_base.specs.Files.{IsNoted}
use Rattle.rx_base.specs.Sink.{Gained, GainedSome, HasRisen}
use Rattle.rx_asks.specs.View.{CallerState}
use Rattle.rx_jumbo.specs.declared.sizes.TheConstants.{JUMBO_PARTS}
use Rattle.rx_model.specs.declared.answers.End.{End}
use Rattle.rx_model.specs.declared.answers.End.TheVariants as ends
use Rattle.rx_model.specs.declared.names.Limits.{Limits}
use Rattle.rx_model.specs.declared.wire.TheConstants.{MAX_WINDOW, SILENCE_MS}
use Rattle.rx_wire_loop.specs.declared.calling.CallEnd.{CallEnd}
use Rattle.rx_wire_loop.specs.declared.calling.CallEnd.TheVariants as call_ends
use Rattle.rx_wire_loop.specs.declared.calling.Calling.{Calling}
use Rattle.rx_drive.specs.declared.stop.Stop.{Stop}
use Rattle.rx_drive.specs.declared.stop.Stop.TheVariants as stops
use Rattle.rx_wire_loop.specs.Calls.{CallIs}
use Rattle.rx_wire_loop.specs.Tells.{SinkTells, Told}
use Rattle.rx_wire_loop.specs.ToldCalls.{CallTold}
use Rattle.rx_reply.specs.declared.counted.TheConstants.{MAX_COUNTED_BYTES}
use Rattle.rx_reply.specs.Replies.{Returned, reply_line, reply_says}
use Rattle.rx_reply.specs.Sent.{sent_spelling}
use Rattle.rx_rules.specs.Classes.{Class}
use Rattle.rx_rules.specs.Setup.{FitsLimits}
use Rattle.rx_script.specs.Procs.{proc_named}
use Rattle.rx_script.specs.Served.{as_counted}
use Rattle.serde_json.specs.Read.{read}
use Rattle.stub_table.specs.Answers.{CanRequest}
use Rattle.stub_table.specs.declared.codes.TheConstants.{CC_MARSHAL}
use Rattle.xdr_json.specs.Args.{args_in}
use Rattle.xdr_value.specs.Data.{Data, Procedure, Types}
use Rattle.xdr_value.specs.View.{proc_of}
use Rattle.xdr_value.specs.declared.def.Proc.{Proc}
use Rattle.xdr_value.specs.declared.interface.Interface.{Interface}
use Rattle.xg_check.specs.Meaning.{Meant, interface_of}
use Rattle.xg_compile.specs.Means.{Means}
use Rattle.rx_words.specs.declared.command.CallWords.{CallWords}
use Rattle.rx_top.specs.declared.outcome.SimOutcome.TheVariants as inputs
use Rattle.rx_top.specs.declared.status.Status.{Status}
use Rattle.rx_top.specs.declared.wire_outcome.ArgsFault.TheVariants as faults
use Rattle.rx_top.specs.declared.wire_outcome.WireOutcome.{WireOutcome}
use Rattle.rx_top.specs.declared.wire_outcome.WireOutcome.TheVariants as outcomes
use Rattle.rx_top.specs.Inputs.{BadXg, Gives, ReadNone, ReadOne, Reads, behind}
use Rattle.rx_top.specs.Wires.{EndsAtInput, EndsAtKey, IsClass, wire_said, wire_status}

-- ---- the words

-- the limits of a client with this window, which makes one call: its slots are the widest windows of both its streams,
-- beside one for the call
abbrev pub client_limits : ℕ → Limits
client_limits window = record { conns = 1; calls = 1; slots = 2 * MAX_WINDOW + 1; window = window }

-- a client can be set up with these words
pub record CanCall (w : Calling) : Type 0 where
  pub epoch : w.epoch < 2 ^ 32
  pub limits : FitsLimits w.limits
  pub some : 1 ≤ w.jumbo
  pub few : w.jumbo ≤ JUMBO_PARTS

-- what is asked for: a procedure of an interface, and whether a download comes
pub record CallAsked : Type 0 where
  pub meant : Meant
  pub proc : Procedure
  pub down : Bool

-- the same of the code's interface and procedure
abbrev pub asked_of : Interface → Proc → Bool → CallAsked
asked_of iface p down = record { meant = interface_of iface; proc = proc_of p; down = down }

-- the words ask for a stream of a procedure that has none
abbrev pub AsksStream : CallWords → Procedure → Type 0
AsksStream words p = (p.split ≡ false) × ((is_some words.up || words.down) ≡ true)

-- ---- values

-- a text says values, and these are the bytes of their request, without an upload
pub record SaysRequest (t : Types) (p : Procedure) (text request : List ℕ) : Type 0 where
  pub values : Data
  pub says : args_in t p.params text ≡ Some (Ok values)
  pub can : CanRequest t p values
  pub spelled : request ≡ sent_spelling t p values None

-- a text says values that are none of a request, for which there is this code
pub record SaysNoRequest (t : Types) (p : Procedure) (text : List ℕ) (code : ℤ) : Type 0 where
  pub values : Data
  pub says : args_in t p.params text ≡ Some (Ok values)
  pub cannot : CanRequest t p values → ⊥
  pub code_is : code ≡ CC_MARSHAL

-- `call` ends at the text of the values: it is no JSON, or none of the values of a request, or memory was wanted
abbrev pub EndsAtValues : WireOutcome → Types → Procedure → List ℕ → Type 0
EndsAtValues (outcomes.BadArgs faults.NotJson) t p text = read text ≡ None
EndsAtValues (outcomes.BadArgs (faults.Mismatch path want)) t p text =
    args_in t p.params text ≡ Some (Err (record { path = string_bytes path; want = string_bytes want }))
EndsAtValues (outcomes.BadArgs (faults.Code code)) t p text = SaysNoRequest t p text code
EndsAtValues outcomes.OutOfMemory t p text = ⊤
EndsAtValues _ t p text = ⊥

-- ---- the upload

-- it ends for the file of the upload: it can't be read, or is too long, or memory was wanted
abbrev pub EndsForUpload : WireOutcome → List ℕ → Reads → Type 0
EndsForUpload (outcomes.Input (inputs.FileFault file)) name r =
    (file.now ≡ name) × IsNoted r.failed_before r.failed name
EndsForUpload (outcomes.BadArgs faults.Number) name r =
    Gives r.contents name (λ upload. MAX_COUNTED_BYTES < length upload)
EndsForUpload outcomes.OutOfMemory name r = ⊤
EndsForUpload _ name r = ⊥

-- it reads the file of the upload, unless memory was wanted before, and ends for it
abbrev pub EndsAtUpload : WireOutcome → List ℕ → Reads → Type 0
EndsAtUpload outcome name r =
    (ReadOne r × EndsForUpload outcome name r) ⊎ (ReadNone r × (outcome ≡ outcomes.OutOfMemory))

-- these bytes are too long for an upload, or memory was wanted
abbrev pub RefusesUpload : WireOutcome → List ℕ → Type 0
RefusesUpload (outcomes.BadArgs faults.Number) upload = MAX_COUNTED_BYTES < length upload
RefusesUpload outcomes.OutOfMemory upload = ⊤
RefusesUpload _ upload = ⊥

-- an upload isn't too long, and stands behind a request as a counted stream
abbrev pub HasUpload : List ℕ → List ℕ → List ℕ → Type 0
HasUpload request upload bytes = (length upload ≤ MAX_COUNTED_BYTES) × (bytes ≡ request ++ as_counted upload)

-- a request, with the upload behind it that the named file is, if one is named
abbrev pub IsSent : Option (List (List ℕ × List ℕ)) → Option (List ℕ) → List ℕ → List ℕ → Type 0
IsSent contents None request bytes = bytes ≡ request
IsSent contents (Some name) request bytes = Gives contents name (λ upload. HasUpload request upload bytes)

-- ---- the reply

-- the line of what a reply says
abbrev pub ok_line : CallAsked → Returned → List ℕ
ok_line a says = codes "ok " ++ reply_line a.meant.types a.proc a.down says ++ codes "\n"

-- how `call` ends with a text that is put: it was put whole, or the sink failed and has the first of its bytes, or
-- memory was wanted before
abbrev pub EndsByPut : WireOutcome → List ℕ → SinkTells → SinkTells → Type 0
EndsByPut outcomes.Done text before after = Gained before.put after.put text × (after.faults ≡ before.faults)
EndsByPut outcomes.SinkFault text before after =
    GainedSome before.put after.put text × HasRisen before.faults after.faults
EndsByPut outcomes.OutOfMemory text before after = after ≡ before
EndsByPut _ text before after = ⊥

-- how it ends by what the reply says: its line is put, or the reply isn't spelled, or memory was wanted
abbrev pub EndsBySaid : CallAsked → Option Returned → WireOutcome → SinkTells → SinkTells → Type 0
EndsBySaid a (Some says) outcome before after = EndsByPut outcome (ok_line a says) before after
EndsBySaid a None outcome before after =
    ((outcome ≡ outcomes.BadReply) ⊎ (outcome ≡ outcomes.OutOfMemory)) × (after ≡ before)

-- how it ends by the bytes of the reply
abbrev pub EndsByReply : CallAsked → List ℕ → WireOutcome → SinkTells → SinkTells → Type 0
EndsByReply a reply = EndsBySaid a (reply_says a.meant.types a.proc a.down reply)

-- ---- how it ends

-- how it ends by the end of the call: with the reply, with a code, in silence, or given up since the reply is too long
abbrev pub EndsByEnd : CallAsked → List ℕ → Option End → WireOutcome → SinkTells → SinkTells → Type 0
EndsByEnd a reply (Some ends.Ok) outcome before after = EndsByReply a reply outcome before after
EndsByEnd a reply (Some (ends.Abort code)) outcome before after =
    (outcome ≡ outcomes.Aborted code) × (after ≡ before)
EndsByEnd a reply (Some (ends.Dead silence)) outcome before after =
    (outcome ≡ outcomes.Dead silence) × (after ≡ before)
EndsByEnd a reply (Some (ends.Cancelled code)) outcome before after =
    (outcome ≡ outcomes.BadReply) × (after ≡ before)
EndsByEnd a reply None outcome before after = ⊥

-- a call ended with a caller that is finished, if it ended with its caller
abbrev pub IsFinished : CallEnd → Type 0
IsFinished (call_ends.Ended v) = is_some v.end ≡ true
IsFinished call_ends.TurnsSpent = ⊤

-- how it ends by its caller
abbrev pub EndsByCaller : CallAsked → CallerState → WireOutcome → SinkTells → SinkTells → Type 0
EndsByCaller a v = EndsByEnd a v.reply v.end

-- how it ends by how a call with so many takes at most ended, and what was put: out of memory too where a polling has
-- no end
abbrev pub EndsByCall : CallAsked → ℕ → Result CallEnd Stop → WireOutcome → SinkTells → SinkTells → Type 0
EndsByCall a turns (Ok (call_ends.Ended v)) outcome before after = EndsByCaller a v outcome before after
EndsByCall a turns (Ok call_ends.TurnsSpent) outcome before after =
    (outcome ≡ outcomes.TurnsSpent turns) × (after ≡ before)
EndsByCall a turns (Err stops.WireFault) outcome before after = (outcome ≡ outcomes.WireFault) × (after ≡ before)
EndsByCall a turns (Err stops.OutOfMemory) outcome before after =
    (outcome ≡ outcomes.OutOfMemory) × (after ≡ before)
EndsByCall a turns (Err stops.Unformatted) outcome before after = ⊥
EndsByCall a turns (Err stops.Unnoted) outcome before after = (outcome ≡ outcomes.Unnoted) × (after ≡ before)
EndsByCall a turns (Err stops.Endless) outcome before after = (outcome ≡ outcomes.OutOfMemory) × (after ≡ before)
EndsByCall a turns (Err stops.SinkFault) outcome before after = ⊥

-- a call was made with this request, and `call` ended as that did; of a call that ended, the caller tells by a legal
-- history of its client, and one that ended in silence was silent for long
pub record CallsServer (a : CallAsked) (w : Calling) (request : List ℕ) (class : Class) (outcome : WireOutcome)
    (before after : Told) : Type 0 where
  pub result : Result CallEnd Stop
  pub made : CallIs w request class result before (record after { sink = before.sink })
  pub ends : EndsByCall a w.turns result outcome before.sink after.sink
  pub told : (v : CallerState) → result ≡ Ok (call_ends.Ended v)
      → CallTold w request class v before (record after { sink = before.sink })
  pub long : (silence : ℕ) → outcome ≡ outcomes.Dead silence → SILENCE_MS ≤ silence

-- ---- the whole command

-- with what is sent, `call` ends at the key file, and nothing was told; or it went on with the class
abbrev pub CallsAtKey : CallAsked → CallWords → Calling → List ℕ → WireOutcome → Reads → Told → Told → Type 0
CallsAtKey a words w request outcome r before after =
    (IsSomeAnd words.key (λ name. EndsAtKey outcome name r) × (after ≡ before))
    ⊎ ((class : Class) × IsClass r.contents words.key class × ReadNone (behind words.key r)
    × CallsServer a w request class outcome before after)

-- with a request, it ends at the file of the upload, and nothing was told; or it went on with what is sent
abbrev pub CallsAtUpload : CallAsked → CallWords → Calling → List ℕ → WireOutcome → Reads → Told → Told → Type 0
CallsAtUpload a words w request outcome r before after =
    (IsSomeAnd words.up (λ name. EndsAtUpload outcome name r) × (after ≡ before))
    ⊎ ((sent : List ℕ) × IsSent r.contents words.up request sent
    × CallsAtKey a words w sent outcome (behind words.up r) before after)

-- of a procedure with the streams that are asked for, it ends at the text of the values, and nothing was told; or it
-- went on with their request
abbrev pub CallsAtValues : CallAsked → CallWords → Calling → WireOutcome → Reads → Told → Told → Type 0
CallsAtValues a words w outcome r before after =
    (EndsAtValues outcome a.meant.types a.proc words.args × ReadNone r × (after ≡ before))
    ⊎ ((request : List ℕ) × SaysRequest a.meant.types a.proc words.args request
    × CallsAtUpload a words w request outcome r before after)

-- of a procedure, it ends at its streams, and nothing was told; or it has those that are asked for
abbrev pub CallsAtStreams : CallAsked → CallWords → Calling → WireOutcome → Reads → Told → Told → Type 0
CallsAtStreams a words w outcome r before after =
    ((outcome ≡ outcomes.BadArgs faults.Kind) × AsksStream words a.proc × ReadNone r × (after ≡ before))
    ⊎ ((AsksStream words a.proc → ⊥) × CallsAtValues a words w outcome r before after)

-- over an interface, it ends at the name of the procedure, and nothing was told; or it went on with the procedure
abbrev pub CallsAtProc : Meant → CallWords → Calling → WireOutcome → Reads → Told → Told → Type 0
CallsAtProc m words w outcome r before after =
    ((outcome ≡ outcomes.BadArgs faults.Proc) × (proc_named words.proc m.procs ≡ None) × ReadNone r
    × (after ≡ before))
    ⊎ ((p : Procedure) × (proc_named words.proc m.procs ≡ Some p)
    × CallsAtStreams (record { meant = m; proc = p; down = words.down }) words w outcome r before after)

-- it ends at the interface's file, and nothing was told; or it went on with the interface
abbrev pub CallsAtXg : CallWords → Calling → WireOutcome → Reads → Told → Told → Type 0
CallsAtXg words w outcome r before after =
    (EndsAtInput outcome words.xg BadXg r × (after ≡ before))
    ⊎ ((m : Meant) × Gives r.contents words.xg (λ text. Means text m)
    × CallsAtProc m words w outcome (behind (Some words.xg) r) before after)

-- what `call` does: the interface is read first, then the procedure and the values are judged, then the upload and the
-- key are read, each once and checked before the next; or memory was wanted before
abbrev pub CallsByFiles : WireOutcome → CallWords → Calling → Reads → Told → Told → Type 0
CallsByFiles outcome words w r before after =
    ((outcome ≡ outcomes.OutOfMemory) × ReadNone r × (after ≡ before)) ⊎ CallsAtXg words w outcome r before after

-- what the program leaves of it: the status of how it ended, and the line of that said; and only a journal that may
-- want memory refused a note
abbrev pub CallLeaves : Status → CallWords → Calling → Reads → Told → Told → Bool → (List ℕ → Type 0) → Type 0
CallLeaves status words w r before after may_want IsSaid =
    (outcome : WireOutcome) × (status ≡ wire_status outcome) × CallsByFiles outcome words w r before after
    × (outcome ≡ outcomes.Unnoted → may_want ≡ true) × IsSaid (wire_said outcome)
