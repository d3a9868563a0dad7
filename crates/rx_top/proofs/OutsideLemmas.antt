-- Lemmas on what parts of a command leave of what is outside.
use Rattle.std.proofs.Common.{◌≡◌, ◌≢◌, ◌∙◌, ℕ, true, false, List, Option, ap, refl, subst, sym}
use Rattle.rx_base.specs.Sink.{HasRisen, IsPut}
use Rattle.rx_stage.specs.Tells.{Told as PlanTold}
use Rattle.rx_wire_loop.specs.Tells.{SinkTells, Told as WireTold, WireTells}
use Rattle.rx_top.specs.declared.status.Status.{Status}
use Rattle.rx_top.specs.declared.status.Status.TheVariants as statuses
use Rattle.rx_top.specs.Inputs.{Reads, behind, read_on}
use Rattle.rx_top.specs.Outside.{Counts, FilesTell, OnlyErr, OnlyFiles, OnlyOut, OnlyPlan, OnlyWire, Outside, is_plain}
use Rattle.rx_top.specs.Outside.{Says, plan_told, reads_of, wire_told}

-- ---- plain statuses

plain_not : (s t : Status) → is_plain s ≡ true → is_plain t ≡ false → s ≢ t
plain_not s t plain not is =
    let same : is_plain s ≡ is_plain t = ap is_plain is in absurd (cc (plain, not, same))

-- ---- steps, one behind the other

risen_behind : (a b c : ℕ) → b ≡ a → HasRisen b c → HasRisen a c
risen_behind a b c same risen = subst (λ (n : ℕ). HasRisen n c) same risen

risen_before : (a b c : ℕ) → c ≡ b → HasRisen a b → HasRisen a c
risen_before a b c same risen = subst (λ (n : ℕ). HasRisen a n) (sym same) risen

-- behind a step that ends nothing
pub counts_then : (s : Status) (a b c : Outside) → Counts statuses.Ok a b → Counts s b c → Counts s a c
counts_then s a b c x y =
    let file = x.no_file_fault (plain_not statuses.Ok statuses.FileFault refl refl) in
    let sink = x.no_sink_fault (plain_not statuses.Ok statuses.SinkFault refl refl) in
    let wire = x.no_wire_fault (plain_not statuses.Ok statuses.WireFault refl refl) in
    record {
      file_fault = λ is. risen_behind a.files.faults b.files.faults c.files.faults file (y.file_fault is);
      no_file_fault = λ not. y.no_file_fault not ∙ file;
      sink_fault = λ is. risen_behind a.out.faults b.out.faults c.out.faults sink (y.sink_fault is);
      no_sink_fault = λ not. y.no_sink_fault not ∙ sink;
      wire_fault = λ is. risen_behind a.wire.faults b.wire.faults c.wire.faults wire (y.wire_fault is);
      no_wire_fault = λ not. y.no_wire_fault not ∙ wire;
      contents = y.contents ∙ x.contents;
      last = λ not. y.last not ∙ x.last (plain_not statuses.Ok statuses.FileFault refl refl);
      names = y.names ∙ x.names;
    }

-- where nothing is counted of the sink, a run counts nothing
pub counts_plan : (s : Status) (a b : Outside) → is_plain s ≡ true → OnlyPlan a b → b.out.faults ≡ a.out.faults
    → Counts s a b
counts_plan s a b plain only same =
    record {
      file_fault = λ is. absurd (plain_not s statuses.FileFault plain refl is);
      no_file_fault = λ not. ap (λ (f : FilesTell). f.faults) only.files;
      sink_fault = λ is. absurd (plain_not s statuses.SinkFault plain refl is);
      no_sink_fault = λ not. same;
      wire_fault = λ is. absurd (plain_not s statuses.WireFault plain refl is);
      no_wire_fault = λ not. ap (λ (w : WireTells). w.faults) only.wire;
      contents = ap (λ (f : FilesTell). f.contents) only.files;
      last = λ not. ap (λ (f : FilesTell). f.last) only.files;
      names = only.names;
    }

-- and where the sink failed, it counts that
pub counts_plan_fault : (a b : Outside) → OnlyPlan a b → HasRisen a.out.faults b.out.faults
    → Counts statuses.SinkFault a b
counts_plan_fault a b only risen =
    record {
      file_fault = λ is. absurd (cc (is));
      no_file_fault = λ not. ap (λ (f : FilesTell). f.faults) only.files;
      sink_fault = λ is. risen;
      no_sink_fault = λ not. absurd (not refl);
      wire_fault = λ is. absurd (cc (is));
      no_wire_fault = λ not. ap (λ (w : WireTells). w.faults) only.wire;
      contents = ap (λ (f : FilesTell). f.contents) only.files;
      last = λ not. ap (λ (f : FilesTell). f.last) only.files;
      names = only.names;
    }

-- ---- reads

-- the reads from behind that of a named file on, if one is named, where that didn't fail
pub reads_behind : (name : Option (List ℕ)) (old now new : Outside) → now.files.contents ≡ old.files.contents
    → now.files.last ≡ old.files.last → now.files.reads ≡ read_on name old.files.reads
    → reads_of now new ≡ behind name (reads_of old new)
reads_behind name old now new same last count = rw (same, last, count) refl

-- what a run tells is what it told before a read
pub plan_kept : (a b : Outside) → OnlyFiles a b → plan_told b ≡ plan_told a
plan_kept a b only = rw (only.noted, only.out) refl

-- the same over a wire
pub wire_kept : (a b : Outside) → OnlyFiles a b → wire_told b ≡ wire_told a
wire_kept a b only = rw (only.noted, only.out, only.wire) refl

-- behind the read of a named file, if one is named, that ended nothing
pub plan_goes_on : (P : Reads → PlanTold → PlanTold → Type 0) (name : Option (List ℕ)) (a b c : Outside)
    → Counts statuses.Ok a b → OnlyFiles a b → b.files.reads ≡ read_on name a.files.reads
    → P (reads_of b c) (plan_told b) (plan_told c) → P (behind name (reads_of a c)) (plan_told a) (plan_told c)
plan_goes_on P name a b c counts only count holds =
    let last = counts.last (plain_not statuses.Ok statuses.FileFault refl refl) in
    subst (λ (t : PlanTold). P (behind name (reads_of a c)) t (plan_told c)) (plan_kept a b only)
    (subst (λ (r : Reads). P r (plan_told b) (plan_told c)) (reads_behind name a b c counts.contents last count) holds)

-- the same over a wire
pub wire_goes_on : (P : Reads → WireTold → WireTold → Type 0) (name : Option (List ℕ)) (a b c : Outside)
    → Counts statuses.Ok a b → OnlyFiles a b → b.files.reads ≡ read_on name a.files.reads
    → P (reads_of b c) (wire_told b) (wire_told c) → P (behind name (reads_of a c)) (wire_told a) (wire_told c)
wire_goes_on P name a b c counts only count holds =
    let last = counts.last (plain_not statuses.Ok statuses.FileFault refl refl) in
    subst (λ (t : WireTold). P (behind name (reads_of a c)) t (wire_told c)) (wire_kept a b only)
    (subst (λ (r : Reads). P r (wire_told b) (wire_told c)) (reads_behind name a b c counts.contents last count) holds)

-- ---- what is said

-- a line that is said leaves what a run tells
pub plan_said : (P : Reads → PlanTold → PlanTold → Type 0) (a b c : Outside) → OnlyErr b c
    → P (reads_of a b) (plan_told a) (plan_told b) → P (reads_of a c) (plan_told a) (plan_told c)
plan_said P a b c only holds = rw (only.files, only.noted, only.out) holds

-- the same over a wire
pub wire_said : (P : Reads → WireTold → WireTold → Type 0) (a b c : Outside) → OnlyErr b c
    → P (reads_of a b) (wire_told a) (wire_told b) → P (reads_of a c) (wire_told a) (wire_told c)
wire_said P a b c only holds = rw (only.files, only.noted, only.out, only.wire) holds

-- what is said behind a part that said nothing
pub says_behind : (a b c : Outside) (bytes : List ℕ) → b.err ≡ a.err → Says b c bytes → Says a c bytes
says_behind a b c bytes same said =
    subst (λ (s : SinkTells). IsPut s.put c.err.put s.faults c.err.faults bytes) same said

-- ---- calls

-- behind a call and the put of its reply, all but `out` is as the call left it
pub wire_called : (a b c : Outside) → b.out ≡ a.out → OnlyOut b c → record (wire_told c) { sink = a.out } ≡ wire_told b
wire_called a b c out only = rw (only.noted, only.wire, out) refl

-- what is counted of both
pub counts_called : (s : Status) (a b c : Outside) → OnlyWire a b → b.out ≡ a.out → OnlyOut b c
    → s ≢ statuses.FileFault → (s ≡ statuses.SinkFault → HasRisen b.out.faults c.out.faults)
    → (s ≢ statuses.SinkFault → c.out.faults ≡ b.out.faults)
    → (s ≡ statuses.WireFault → HasRisen a.wire.faults b.wire.faults)
    → (s ≢ statuses.WireFault → b.wire.faults ≡ a.wire.faults) → Counts s a c
counts_called s a b c wired out only no_file risen same failed went =
    record {
      file_fault = λ is. absurd (no_file is);
      no_file_fault = λ not. ap (λ (f : FilesTell). f.faults) (only.files ∙ wired.files);
      sink_fault = λ is. risen_behind a.out.faults b.out.faults c.out.faults (ap (λ (s : SinkTells). s.faults) out)
          (risen is);
      no_sink_fault = λ not. same not ∙ ap (λ (s : SinkTells). s.faults) out;
      wire_fault = λ is. risen_before a.wire.faults b.wire.faults c.wire.faults
          (ap (λ (w : WireTells). w.faults) only.wire) (failed is);
      no_wire_fault = λ not. ap (λ (w : WireTells). w.faults) only.wire ∙ went not;
      contents = ap (λ (f : FilesTell). f.contents) (only.files ∙ wired.files);
      last = λ not. ap (λ (f : FilesTell). f.last) (only.files ∙ wired.files);
      names = only.names ∙ wired.names;
    }
