-- How a whole reply is spelled. Laws cite this module.
use Rattle.std.specs.Prelude.{◌≡◌, ◌≤◌, ℕ, Bool, true, false, List, [], ◌++◌, length}
use Rattle.xdr_value.specs.Data.{Procedure, Types}
use Rattle.stub_table.specs.declared.stream.Stream.TheVariants as streams
use Rattle.stub_table.specs.Streams.{FitStream, stream_spelling}
use Rattle.rx_script.specs.Served.{as_counted}
use Rattle.rx_reply.specs.declared.counted.TheConstants.{MAX_COUNTED_BYTES}
use Rattle.rx_reply.specs.Replies.{Returned}

-- the download as a counted stream, where one goes back
abbrev pub download_spelling : Bool → List ℕ → List ℕ
download_spelling true sent = as_counted sent
download_spelling false sent = []

-- a download goes back only where it is asked for, and isn't too long
abbrev pub DownloadFits : Bool → List ℕ → Type 0
DownloadFits true sent = length sent ≤ MAX_COUNTED_BYTES
DownloadFits false sent = sent ≡ []

-- what can come back: values of the INOUT and OUT arguments, and such a download
abbrev pub CanReturn : Types → Procedure → Bool → Returned → Type 0
CanReturn t p down says = FitStream t streams.Reply p says.values × DownloadFits down says.download

-- the bytes of a reply that says it
abbrev pub reply_spelling : Types → Procedure → Bool → Returned → List ℕ
reply_spelling t p down says =
    download_spelling down says.download ++ stream_spelling t streams.Reply p says.values
