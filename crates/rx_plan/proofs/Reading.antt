-- The lines of a plan that was read can be run.
use Rattle.std.proofs.Common.{◌≡◌, ◌≢◌, ◌≤◌, ◌<◌, ◌-◌, ◌^◌, ℕ, suc, pos, Bool, true, false, List, [], ◌∷◌, Option, Some}
use Rattle.std.proofs.Common.{None}
use Rattle.std.proofs.Common.{Result, Ok, Err, refl, sym, subst, length, arith, reverse, drop, get_or, if◌then◌else◌}
use Rattle.std.specs.Prelude.{IfOk, codes, nat_eq, nat_lt, is_some, bytes_eq}
use Rattle.std.specs.List.{All, starts_with}
use Rattle.std.specs.Option.{ok_or}
use Rattle.std.proofs.Math.ListN.{get_or-map}
use Rattle.std.proofs.lemmas.List.{length-map}
use Rattle.std.proofs.lemmas.List.Elements.{All-push}
use Rattle.rx_model.specs.declared.names.Host.{Host}
use Rattle.xdr_value.specs.Data.{Procedure, Types}
use Rattle.stub_table.specs.Answers.{CanRequest}
use Rattle.rx_jobs.specs.Handlers.{Handlers}
use Rattle.rx_reply.specs.Sent.{UploadFits}
use Rattle.rx_script.specs.declared.fault.LineWhy.{LineWhy}
use Rattle.rx_script.specs.declared.fault.LineWhy.TheVariants as whys
use Rattle.rx_script.specs.declared.limits.TheConstants.{END_OF_TIME, MAX_BYTES, MAX_LINES}
use Rattle.rx_script.specs.declared.marks.TheConstants.{ACCEPTED, CALLED, CLIENT, PACKET}
use Rattle.rx_script.specs.declared.options.TheConstants.{CLIENT_OPTIONS, CONNECT_OPTIONS, SERVER_OPTIONS}
use Rattle.rx_script.specs.declared.plan.Numbered.{Numbered}
use Rattle.rx_script.specs.declared.plan.PlanLine.{PlanLine}
use Rattle.rx_script.specs.declared.plan.PlanLine.TheVariants as lines
use Rattle.rx_script.specs.declared.shared.SharedLine.{SharedLine}
use Rattle.rx_script.specs.declared.shared.SharedLine.TheVariants as shareds
use Rattle.rx_script.specs.declared.verb.Verb.{Verb}
use Rattle.rx_script.specs.declared.verb.Verb.TheVariants as verbs
use Rattle.rx_script.specs.declared.verb.TheConstants.{VERBS}
use Rattle.rx_script.specs.declared.words.CallWord.{CallWord}
use Rattle.rx_script.specs.declared.words.CallWord.TheVariants as calls
use Rattle.rx_script.specs.declared.words.Names.TheVariants as names
use Rattle.rx_script.specs.Hosts.{is_host}
use Rattle.rx_script.specs.Numbers.{bytes_in, code_in, number_within}
use Rattle.rx_script.specs.Options.{first_in, limits_in, nonce_in, options_word, service_in}
use Rattle.rx_script.specs.Pieces.{lines_of, words_of}
use Rattle.rx_script.specs.Plans.{plan_of, plan_step, server_host, with_said}
use Rattle.rx_script.specs.Procs.{args_word, proc_named, proc_word}
use Rattle.rx_script.specs.Rows.{client_line, connect_line, down_value, forge_line, invoke_line, invoke_rest, new_host}
use Rattle.rx_script.specs.Rows.{numbers_line, plain_line, plan_by, plan_line, plan_of_shared, read_of, rounds_word}
use Rattle.rx_script.specs.Rows.{server_line, shared_line, up_head, up_value, write_line, write_of}
use Rattle.rx_script.specs.Saying.{Invocation, Row, Said, invoked, plain, plan_row, plan_rows, plan_said}
use Rattle.rx_script.specs.Texts.{Given, after, is_skipped, read_back, with_line}
use Rattle.rx_script.specs.Verbs.{verb_in}
use Rattle.rx_script.specs.Words.{and_then, bytes_word, call_word, caller_word, cid_word, code_word, end, epoch_head}
use Rattle.rx_script.specs.Words.{epoch_word, fault_word, host_word, max_word, moment_word, name_word, no_more}
use Rattle.rx_script.specs.Words.{node_word}
use Rattle.rx_script.specs.Words.{nodes_word, not_zero, seed_word, word}
use Rattle.rx_plan.specs.Lines.{IsWell, TakesArguments}
use Rattle.rx_plan.proofs.Givings.Given.{FewBytes, InRange, IsNamed, args_well, bytes_few, fault_well, first_well}
use Rattle.rx_plan.proofs.Givings.Given.{nonce_well}
use Rattle.rx_plan.proofs.Givings.Given.{options_well, proc_well, service_well}
use Rattle.rx_plan.proofs.Words.{Within, any_ok, if_and, if_any, if_either, if_end, if_or, if_value, if_word}
use Rattle.rx_plan.proofs.Words.{number_well}
use Rattle.rx_plan.proofs.Words.{within_well}

-- ---- lines of a plan alone

server_well : (g : Handlers) (words : List (List ℕ)) → IfOk (server_line words) (IsWell g)
server_well g words =
    if_any host_word (λ host ws. and_then (options_word SERVER_OPTIONS ws)
    (λ given. Ok (lines.Server host (service_in given) (limits_in given) given.key (nonce_in given)))) (IsWell g)
    (λ host ws. if_and (options_word SERVER_OPTIONS ws)
    (λ given. Ok (lines.Server host (service_in given) (limits_in given) given.key (nonce_in given))) InRange (IsWell g)
    (options_well SERVER_OPTIONS ws) (λ given all.
    (service_well given.service all.service, nonce_well given.nonce all.nonce)))
    words

epoch_well : (w : List ℕ) → IfOk (epoch_word w) (Within 0 (2 ^ 32 - 1))
epoch_well w =
    if_either (starts_with nat_eq w epoch_head) (ok_or (number_within 0 (2 ^ 32 - 1) (drop
    (length epoch_head) w)) whys.Number)
    (Err whys.Word) (Within 0 (2 ^ 32 - 1))
    (if_or (number_within 0 (2 ^ 32 - 1) (drop (length epoch_head) w)) whys.Number (Within 0 (2 ^ 32 - 1))
    (within_well 0 (2 ^ 32 - 1) (drop (length epoch_head) w))) tt

client_well : (g : Handlers) (taken : Host → Bool) (words : List (List ℕ)) → IfOk (client_line taken words) (IsWell g)
client_well g taken words =
    if_any (new_host taken) (λ host. word epoch_word (λ epoch ws. and_then (options_word CLIENT_OPTIONS ws)
    (λ given. Ok (lines.Client host epoch (limits_in given) given.key)))) (IsWell g)
    (λ host. if_word epoch_word (λ epoch ws. and_then (options_word CLIENT_OPTIONS ws)
    (λ given. Ok (lines.Client host epoch (limits_in given) given.key))) (Within 0 (2 ^ 32 - 1)) (IsWell g) epoch_well
    (λ epoch within ws. if_and (options_word CLIENT_OPTIONS ws)
    (λ given. Ok (lines.Client host epoch (limits_in given) given.key)) (λ given. Unit {0}) (IsWell g)
    (any_ok (options_word CLIENT_OPTIONS ws)) (λ given any. omega (arith, within.1)))) words

connect_well : (g : Handlers) (words : List (List ℕ)) → IfOk (connect_line words) (IsWell g)
connect_well g words =
    if_any (name_word CLIENT) (λ client ws. and_then (options_word CONNECT_OPTIONS ws)
    (λ given. Ok (lines.Connect client (first_in given)))) (IsWell g)
    (λ client ws. if_and (options_word CONNECT_OPTIONS ws) (λ given. Ok (lines.Connect client (first_in given))) InRange
    (IsWell g) (options_well CONNECT_OPTIONS ws) (λ given all. first_well given.first all.first)) words

written_well : (g : Handlers) (call : CallWord) (bytes : List ℕ) → IsWell g (write_of call bytes)
written_well g (calls.Called call) bytes = tt
written_well g (calls.Accepted call) bytes = tt

write_well : (g : Handlers) (words : List (List ℕ)) → IfOk (write_line words) (IsWell g)
write_well g words =
    if_any call_word (λ call. word bytes_word (λ bytes. end (write_of call bytes))) (IsWell g)
    (λ call. if_any bytes_word (λ bytes. end (write_of call bytes)) (IsWell g)
    (λ bytes. if_end (write_of call bytes) (IsWell g) (written_well g call bytes))) words

forge_well : (g : Handlers) (words : List (List ℕ)) → IfOk (forge_line words) (IsWell g)
forge_well g words =
    if_any (node_word names.Plan) (λ node. word host_word (λ host. word bytes_word
    (λ bytes. end (lines.Forge node host bytes)))) (IsWell g)
    (λ node. if_any host_word (λ host. word bytes_word (λ bytes. end (lines.Forge node host bytes))) (IsWell g)
    (λ host. if_any bytes_word (λ bytes. end (lines.Forge node host bytes)) (IsWell g)
    (λ bytes. if_end (lines.Forge node host bytes) (IsWell g) tt))) words

read_well : (g : Handlers) (call : CallWord) (max : ℕ) → 1 ≤ max → IsWell g (read_of call max)
read_well g (calls.Called call) max some = some
read_well g (calls.Accepted call) max some = some

-- ---- lines that plans of peers have too

abbrev IsWellShared : SharedLine → Type 0
IsWellShared (shareds.Cancel call code) = code ≢ pos 0
IsWellShared (shareds.Clock which now) = now < 2 ^ 62
IsWellShared _ = Unit {0}

shared_so : (g : Handlers) (line : SharedLine) → IsWellShared line → IsWell g (plan_of_shared line)
shared_so g (shareds.Cancel call code) well = well
shared_so g (shareds.Ask call) well = tt
shared_so g (shareds.Poll node) well = tt
shared_so g (shareds.Deliver packet) well = tt
shared_so g (shareds.Clock which now) well = well
shared_so g (shareds.Turn node) well = tt
shared_so g (shareds.Rounds rounds) well = tt
shared_so g (shareds.Lossy seed rounds) well = tt

shared_well : (verb : Verb) (words : List (List ℕ)) → IfOk (shared_line names.Plan verb words) IsWellShared
shared_well verbs.Cancel words =
    if_any (name_word CALLED) (λ call. word fault_word (λ code. end (shareds.Cancel call code))) IsWellShared
    (λ call. if_word fault_word (λ code. end (shareds.Cancel call code)) (λ code. code ≢ pos 0) IsWellShared
    (λ w. if_value (λ v. not_zero (code_in v)) (λ code. code ≢ pos 0) (λ v. fault_well (code_in v)) w)
    (λ code well. if_end (shareds.Cancel call code) IsWellShared well)) words
shared_well verbs.Ask words =
    if_any (name_word CALLED) (λ call. end (shareds.Ask call)) IsWellShared
    (λ call. if_end (shareds.Ask call) IsWellShared tt) words
shared_well verbs.Poll words =
    if_any (node_word names.Plan) (λ node. end (shareds.Poll node)) IsWellShared
    (λ node. if_end (shareds.Poll node) IsWellShared tt) words
shared_well verbs.Deliver words =
    if_any (name_word PACKET) (λ packet. end (shareds.Deliver packet)) IsWellShared
    (λ packet. if_end (shareds.Deliver packet) IsWellShared tt) words
shared_well verbs.Clock words =
    if_any (nodes_word names.Plan) (λ node. word moment_word (λ now. end (shareds.Clock node now))) IsWellShared
    (λ node. if_word moment_word (λ now. end (shareds.Clock node now)) (Within 0 (END_OF_TIME - 1)) IsWellShared
    (number_well 0 (END_OF_TIME - 1))
    (λ now within. if_end (shareds.Clock node now) IsWellShared (omega (arith, within.1)))) words
shared_well verbs.Turn words =
    if_any (node_word names.Plan) (λ node. end (shareds.Turn node)) IsWellShared
    (λ node. if_end (shareds.Turn node) IsWellShared tt) words
shared_well verbs.Round words = if_end (shareds.Rounds 1) IsWellShared tt words
shared_well verbs.Rounds words =
    if_any rounds_word (λ rounds. end (shareds.Rounds rounds)) IsWellShared
    (λ rounds. if_end (shareds.Rounds rounds) IsWellShared tt) words
shared_well verbs.Lossy words =
    if_any seed_word (λ seed. word rounds_word (λ rounds. end (shareds.Lossy seed rounds))) IsWellShared
    (λ seed. if_any rounds_word (λ rounds. end (shareds.Lossy seed rounds)) IsWellShared
    (λ rounds. if_end (shareds.Lossy seed rounds) IsWellShared tt)) words
shared_well _ words = tt

-- ---- lines by their first words

numbers_well : (g : Handlers) (verb : Verb) (words : List (List ℕ)) → IfOk (numbers_line verb words) (IsWell g)
numbers_well g verbs.Call words =
    if_any (name_word CLIENT) (λ client. word cid_word (λ cid. end (lines.Call client cid))) (IsWell g)
    (λ client. if_any cid_word (λ cid. end (lines.Call client cid)) (IsWell g)
    (λ cid. if_end (lines.Call client cid) (IsWell g) tt)) words
numbers_well g verbs.Shut words =
    if_any (name_word CALLED) (λ call. end (lines.Shut call)) (IsWell g)
    (λ call. if_end (lines.Shut call) (IsWell g) tt) words
numbers_well g verbs.Read words =
    if_any call_word (λ call. word max_word (λ max. end (read_of call max))) (IsWell g)
    (λ call. if_word max_word (λ max. end (read_of call max)) (Within 1 MAX_BYTES) (IsWell g) (number_well 1 MAX_BYTES)
    (λ max within. if_end (read_of call max) (IsWell g) (read_well g call max within.0))) words
numbers_well g verbs.Accept words = if_end lines.Accept (IsWell g) tt words
numbers_well g verbs.Finish words =
    if_any (name_word ACCEPTED) (λ call. word code_word (λ code. end (lines.Finish call code))) (IsWell g)
    (λ call. if_any code_word (λ code. end (lines.Finish call code)) (IsWell g)
    (λ code. if_end (lines.Finish call code) (IsWell g) tt)) words
numbers_well g verbs.Jumbo words =
    if_any (name_word PACKET) (λ first. word (name_word PACKET) (λ last. end (lines.Jumbo first last))) (IsWell g)
    (λ first. if_any (name_word PACKET) (λ last. end (lines.Jumbo first last)) (IsWell g)
    (λ last. if_end (lines.Jumbo first last) (IsWell g) tt)) words
numbers_well g verb words =
    if_and (shared_line names.Plan verb words) (λ line. Ok (plan_of_shared line)) IsWellShared (IsWell g)
    (shared_well verb words) (shared_so g)

plain_well : (g : Handlers) (taken : Host → Bool) (verb : Verb) (words : List (List ℕ))
    → IfOk (plain_line taken verb words) (IsWell g)
plain_well g taken verbs.Server words = server_well g words
plain_well g taken verbs.Client words = client_well g taken words
plain_well g taken verbs.Connect words = connect_well g words
plain_well g taken verbs.Write words = write_well g words
plain_well g taken verbs.Forge words = forge_well g words
plain_well g taken verb words = numbers_well g verb words

-- ---- invokes

-- what an invoke of a procedure says fits it
record Invokes (t : Types) (p : Procedure) (i : Invocation) : Type 0 where
  pub proc : i.proc ≡ p.name
  pub args : CanRequest t p i.args
  pub up : UploadFits i.up

up_few : (split : Bool) (given : Option (List ℕ)) (text : List ℕ) → IfOk (up_value split given text) FewBytes
up_few split given text =
    if_and (ok_or (bytes_in text) whys.Number)
    (λ bytes. if split then (if is_some given then Err whys.Twice else Ok bytes) else Err whys.Kind) FewBytes FewBytes
    (if_or (bytes_in text) whys.Number FewBytes (bytes_few text))
    (λ bytes few. if_either split (if is_some given then Err whys.Twice else Ok bytes) (Err whys.Kind) FewBytes
    (if_either (is_some given) (Err whys.Twice) (Ok bytes) FewBytes tt few) tt)

rest_well : (t : Types) (node cid : ℕ) (p : Procedure) (words : List (List ℕ)) (up : Option (List ℕ)) (down : Bool)
    → UploadFits up → IfOk (invoke_rest t node cid p up down words) (Invokes t p)
rest_well t node cid p [] up down fits = tt
rest_well t node cid p (w ∷ ws) up down fits =
    if_either (starts_with nat_eq w up_head)
    (and_then (up_value p.split up (drop 3 w)) (λ bytes. invoke_rest t node cid p (Some bytes) down ws))
    (if bytes_eq w (codes "down")
    then and_then (down_value p.split down) (λ asked. invoke_rest t node cid p up asked ws)
    else and_then (args_word t p w) (λ args. and_then (no_more ws) (λ _. Ok (record {
      node = node;
      cid = cid;
      proc = p.name;
      up = up;
      down = down;
      args = args;
    })))) (Invokes t p)
    (if_and (up_value p.split up (drop 3 w)) (λ bytes. invoke_rest t node cid p (Some bytes) down ws) FewBytes
    (Invokes t p) (up_few p.split up (drop 3 w)) (λ bytes few. rest_well t node cid p ws (Some bytes) down few))
    (if_either (bytes_eq w (codes "down"))
    (and_then (down_value p.split down) (λ asked. invoke_rest t node cid p up asked ws))
    (and_then (args_word t p w) (λ args. and_then (no_more ws) (λ _. Ok (record {
      node = node;
      cid = cid;
      proc = p.name;
      up = up;
      down = down;
      args = args;
    })))) (Invokes t p)
    (if_and (down_value p.split down) (λ asked. invoke_rest t node cid p up asked ws) (λ asked. Unit {0}) (Invokes t p)
    (any_ok (down_value p.split down)) (λ asked any. rest_well t node cid p ws up asked fits))
    (if_and (args_word t p w) (λ args. and_then (no_more ws) (λ _. Ok (record {
      node = node;
      cid = cid;
      proc = p.name;
      up = up;
      down = down;
      args = args;
    }))) (CanRequest t p) (Invokes t p) (args_well t p w)
    (λ args can. if_and (no_more ws) (λ _. Ok (record {
      node = node;
      cid = cid;
      proc = p.name;
      up = up;
      down = down;
      args = args;
    })) (λ _. Unit {0}) (Invokes t p) (any_ok (no_more ws))
    (λ _ any. record { proc = refl; args = can; up = fits }))))

-- what a row says can be run
abbrev pub IsWellSaid : Handlers → Said PlanLine → Type 0
IsWellSaid g (plain line) = IsWell g line
IsWellSaid g (invoked i) = TakesArguments g (proc_named i.proc g.procs) i.args i.up

takes : (g : Handlers) (p : Procedure) (i : Invocation) → IsNamed g.procs p → Invokes g.types p i
    → IsWellSaid g (invoked i)
takes g p i named is =
    subst (λ name. TakesArguments g (proc_named name g.procs) i.args i.up) (sym is.proc)
    (subst (λ o. TakesArguments g o i.args i.up) (sym named) (is.args, is.up))

invoke_well : (g : Handlers) (words : List (List ℕ))
    → IfOk (invoke_line g.types g.procs names.Plan words) (λ i. IsWellSaid g (invoked i))
invoke_well g words =
    if_any (caller_word names.Plan) (λ node. word cid_word (λ cid. word (proc_word g.procs)
    (λ p. invoke_rest g.types node cid p None false))) (λ i. IsWellSaid g (invoked i))
    (λ node. if_any cid_word (λ cid. word (proc_word g.procs) (λ p. invoke_rest g.types node cid p None false))
    (λ i. IsWellSaid g (invoked i))
    (λ cid. if_word (proc_word g.procs) (λ p. invoke_rest g.types node cid p None false) (IsNamed g.procs)
    (λ i. IsWellSaid g (invoked i)) (proc_well g.procs)
    (λ p named ws. weaken (invoke_rest g.types node cid p None false ws) (Invokes g.types p)
    (λ i. IsWellSaid g (invoked i)) (λ i is. takes g p i named is)
    (rest_well g.types node cid p ws None false tt)))) words
  where
    weaken : (r : Result Invocation LineWhy) (Q P : Invocation → Type 0) → ((i : Invocation) → Q i → P i) → IfOk r Q
        → IfOk r P
    weaken (Ok i) Q P more there = more i there
    weaken (Err why) Q P more there = tt

-- ---- rows

said_so : (g : Handlers) (line : PlanLine) → IsWell g line → IsWellSaid g (plan_said line)
said_so g (lines.Invoke client cid proc up down args) well = well
said_so g line well = well

said_is : (g : Handlers) (line : PlanLine) → IsWellSaid g (plan_said line) → IsWell g line
said_is g (lines.Invoke client cid proc up down args) well = well
said_is g line well = well

by_well : (g : Handlers) (taken : Host → Bool) (verb : Verb) (words : List (List ℕ))
    → IfOk (plan_by g.types g.procs taken verb words) (IsWellSaid g)
by_well g taken verbs.Invoke words =
    if_and (invoke_line g.types g.procs names.Plan words) (λ call. Ok (invoked call)) (λ i. IsWellSaid g (invoked i))
    (IsWellSaid g) (invoke_well g words) (λ i well. well)
by_well g taken verb words =
    if_and (plain_line taken verb words) (λ line. Ok (plan_said line)) (IsWell g) (IsWellSaid g)
    (plain_well g taken verb words) (said_so g)

line_well : (g : Handlers) (taken : Host → Bool) (words : List (List ℕ))
    → IfOk (plan_line g.types g.procs taken words) (IsWellSaid g)
line_well g taken [] = tt
line_well g taken (first ∷ words) =
    if_and (ok_or (verb_in VERBS first) whys.Word) (λ verb. plan_by g.types g.procs taken verb words) (λ verb. Unit {0})
    (IsWellSaid g) (any_ok (ok_or (verb_in VERBS first) whys.Word)) (λ verb any. by_well g taken verb words)

-- ---- texts

abbrev AreWell : Handlers → List (Row PlanLine) → Type 0
AreWell g = All (λ r. IsWellSaid g r.1)

row_well : (g : Handlers) (n : ℕ) (before : List (Row PlanLine)) (said : Result (Said PlanLine) LineWhy)
    → AreWell g before → IfOk said (IsWellSaid g) → IfOk (with_said n before said) (AreWell g)
row_well g n before (Err why) all well = tt
row_well g n before (Ok said) all well = All-push (λ r. IsWellSaid g r.1) before (n, said) all well

pub given_either : {S : Type 0} (test : Bool) (r s : Given S) (P : S → Type 0) → IfOk r P → IfOk s P
    → IfOk (if test then r else s) P
given_either true r s P first other = first
given_either false r s P first other = other

taken_well : (g : Handlers) (n : ℕ) (line : List ℕ) (before : List (Row PlanLine)) → AreWell g before
    → IfOk (with_line (plan_step g.types g.procs) n line before) (AreWell g)
taken_well g n line before all =
    given_either (nat_lt MAX_LINES n) (Err _) _ (AreWell g) tt
    (given_either (is_skipped line) (Ok before) (plan_step g.types g.procs n line before) (AreWell g) all
    (row_well g n before (plan_line g.types g.procs (is_host (server_host before)) (words_of line)) all
    (line_well g (is_host (server_host before)) (words_of line))))

pub after_well : {S : Type 0} (r : Given S) (next : S → Given S) (P : S → Type 0) → IfOk r P
    → ((s : S) → P s → IfOk (next s) P) → IfOk (after r next) P
after_well (Ok s) next P there more = more s there
after_well (Err fault) next P there more = tt

back_well : (g : Handlers) (before : List (List ℕ)) → IfOk (read_back (plan_step g.types g.procs) [] before) (AreWell g)
back_well g [] = λ k d none. absurd (omega (arith, none))
back_well g (line ∷ before) =
    after_well (read_back (plan_step g.types g.procs) [] before)
    (with_line (plan_step g.types g.procs) (suc (length before)) line) (AreWell g) (back_well g before)
    (λ rows all. taken_well g (suc (length before)) line rows all)

-- each line of a plan that was read
pub lines_well : (g : Handlers) (text : List ℕ) (ls : List Numbered) → plan_of g.types g.procs text ≡ Ok (plan_rows ls)
    → All (λ n. IsWell g n.what) ls
lines_well g text ls read k d there =
    said_is g (get_or ls k d).what
    (subst (λ r. IsWellSaid g r.1) (get_or-map plan_row ls k d)
    (rows k (plan_row d) (subst (λ n. k < n) (sym (length-map ls plan_row)) there)))
  where
    rows : AreWell g (plan_rows ls)
    rows =
        subst (λ r. IfOk r (AreWell g)) read (back_well g (reverse (lines_of text)))
