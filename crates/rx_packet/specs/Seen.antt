-- A header and a body, seen as the model's message. Public clauses cite this module.
use Rattle.std.specs.Prelude.{◌≤◌, length, Result, Ok, Err}
use Rattle.rx_model.specs.declared.answers.BadMsg.{BadMsg}
use Rattle.rx_model.specs.declared.wire.TheConstants.{PAYLOAD_BYTES}
use Rattle.rx_model.specs.Body as models
use Rattle.rx_model.specs.Message.{Message}
use Rattle.rx_packet.specs.declared.ack.AckBody.{AckBody}
use Rattle.rx_packet.specs.declared.body.Body.{Body}
use Rattle.rx_packet.specs.declared.body.Body.TheVariants as bodies
use Rattle.rx_packet.specs.declared.head.Head.{Head}

-- an acknowledgement, its marks seen as a list
abbrev pub ack_of : AckBody → models.AckBody
ack_of a =
    record {
      first = a.first;
      previous = a.previous;
      serial = a.serial;
      reason = a.reason;
      marks = a.marks.items;
      window = a.window;
    }

-- a body, what it borrows seen as it is now
abbrev pub body_of : Body → models.Body
body_of (bodies.Chunk payload) = models.Chunk payload.now
body_of bodies.Busy = models.Busy
body_of (bodies.Ack ack) = models.Ack (ack_of ack)
body_of (bodies.Abort code) = models.Abort code
body_of bodies.AckAll = models.AckAll
body_of (bodies.Challenge bytes) = models.Challenge bytes.now
body_of (bodies.Response bytes) = models.Response bytes.now

-- the message of a header and a model's body
abbrev pub message_with_head : Head → models.Body → Message
message_with_head head body =
    record {
      epoch = head.epoch;
      cid = head.cid;
      number = head.number;
      seq = head.seq;
      serial = head.serial;
      flags = head.flags;
      status = head.status;
      index = head.index;
      spare = head.spare;
      service = head.service;
      body = body;
    }

-- the message of a header and a body
abbrev pub message_of : Head → Body → Message
message_of head body = message_with_head head (body_of body)

-- a reader's answer, seen as the model's
abbrev pub seen : Result (Head × Body) BadMsg → Result Message BadMsg
seen (Ok m) = Ok (message_of m.0 m.1)
seen (Err e) = Err e

-- the same of a body alone
abbrev pub seen_body : Result Body BadMsg → Result models.Body BadMsg
seen_body (Ok body) = Ok (body_of body)
seen_body (Err e) = Err e

-- what a message carries for others is no longer than a datagram has room for
abbrev pub FitsDatagram : models.Body → Type 0
FitsDatagram (models.Chunk payload) = length payload ≤ PAYLOAD_BYTES
FitsDatagram models.Busy = Unit {0}
FitsDatagram (models.Ack ack) = Unit {0}
FitsDatagram (models.Abort code) = Unit {0}
FitsDatagram models.AckAll = Unit {0}
FitsDatagram (models.Challenge bytes) = length bytes ≤ PAYLOAD_BYTES
FitsDatagram (models.Response bytes) = length bytes ≤ PAYLOAD_BYTES
