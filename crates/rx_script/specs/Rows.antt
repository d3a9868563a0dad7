-- The lines of plans and of plans of peers: a row for each, with the types of its words. Public clauses cite this
-- module.
use Rattle.std.specs.Prelude.{if◌then◌else◌, codes, nat_eq, ℕ, Bool, true, false, List, [], ◌∷◌, drop, is_some, Option}
use Rattle.std.specs.Prelude.{Some, None, Result, Ok, Err, bytes_eq}
use Rattle.std.specs.List.{starts_with}
use Rattle.std.specs.Option.{ok_or}
use Rattle.rx_model.specs.declared.names.Host.{Host}
use Rattle.xdr_value.specs.Data.{Procedure, Procs, Types}
use Rattle.rx_script.specs.declared.fault.LineWhy.{LineWhy}
use Rattle.rx_script.specs.declared.fault.LineWhy.TheVariants as whys
use Rattle.rx_script.specs.declared.limits.TheConstants.{MAX_ROUNDS}
use Rattle.rx_script.specs.declared.marks.TheConstants.{CALLED, ACCEPTED, PACKET, CLIENT, PEER}
use Rattle.rx_script.specs.declared.options.TheConstants.{SERVER_OPTIONS, CLIENT_OPTIONS, PEER_OPTIONS, CONNECT_OPTIONS}
use Rattle.rx_script.specs.declared.plan.PlanLine.{PlanLine}
use Rattle.rx_script.specs.declared.plan.PlanLine.TheVariants as lines
use Rattle.rx_script.specs.declared.plan.PeerLine.{PeerLine}
use Rattle.rx_script.specs.declared.plan.PeerLine.TheVariants as peers
use Rattle.rx_script.specs.declared.shared.SharedLine.{SharedLine}
use Rattle.rx_script.specs.declared.shared.SharedLine.TheVariants as shareds
use Rattle.rx_script.specs.declared.verb.Verb.{Verb}
use Rattle.rx_script.specs.declared.verb.Verb.TheVariants as verbs
use Rattle.rx_script.specs.declared.verb.TheConstants.{VERBS}
use Rattle.rx_script.specs.declared.words.CallWord.{CallWord}
use Rattle.rx_script.specs.declared.words.CallWord.TheVariants as calls
use Rattle.rx_script.specs.declared.words.Names.{Names}
use Rattle.rx_script.specs.declared.words.Names.TheVariants as names
use Rattle.rx_script.specs.Numbers.{bytes_in}
use Rattle.rx_script.specs.Options.{options_word, limits_in, service_in, nonce_in, first_in}
use Rattle.rx_script.specs.Procs.{proc_word, args_word}
use Rattle.rx_script.specs.Saying.{Said, invoked, Invocation, plan_said, peer_said}
use Rattle.rx_script.specs.Verbs.{verb_in}
use Rattle.rx_script.specs.Words.{LineForm, and_then, word, end, no_more, number_word, host_word, bytes_word, code_word}
use Rattle.rx_script.specs.Words.{fault_word, cid_word, max_word, moment_word, seed_word, epoch_word, name_word}
use Rattle.rx_script.specs.Words.{caller_word, node_word, nodes_word, call_word}

-- ---- calls with their callers

-- up=BYTES behind its head: the upload of a split procedure, once
abbrev pub up_value : Bool → Option (List ℕ) → List ℕ → Result (List ℕ) LineWhy
up_value split given text =
    and_then (ok_or (bytes_in text) whys.Number)
    (λ bytes. if split then (if is_some given then Err whys.Twice else Ok bytes) else Err whys.Kind)

-- down: the download of a split procedure is asked for, once
abbrev pub down_value : Bool → Bool → Result Bool LineWhy
down_value split given =
    if split then (if given then Err whys.Twice else Ok true) else Err whys.Kind

-- the text in front of what is sent up
abbrev pub up_head : List ℕ
up_head = codes "up="

-- [up=BYTES] [down] JSON
abbrev pub invoke_rest : Types → ℕ → ℕ → Procedure → Option (List ℕ) → Bool → LineForm Invocation
invoke_rest t node cid p up down [] = Err whys.Word
invoke_rest t node cid p up down (word ∷ words) =
    if starts_with nat_eq word up_head
    then and_then (up_value p.split up (drop 3 word)) (λ bytes. invoke_rest t node cid p (Some bytes) down words)
    else if bytes_eq word (codes "down")
    then and_then (down_value p.split down) (λ asked. invoke_rest t node cid p up asked words)
    else and_then (args_word t p word) (λ args. and_then (no_more words) (λ _. Ok (record {
      node = node;
      cid = cid;
      proc = p.name;
      up = up;
      down = down;
      args = args;
    })))

-- invoke NODE CID PROC [up=BYTES] [down] JSON
abbrev pub invoke_line : Types → Procs → Names → LineForm Invocation
invoke_line t ps which =
    word (caller_word which) (λ node. word cid_word (λ cid. word (proc_word ps)
    (λ p. invoke_rest t node cid p None false)))

-- ---- the lines that both kinds of plans have

-- N of a line of rounds
abbrev pub rounds_word : List ℕ → Result ℕ LineWhy
rounds_word = number_word 1 MAX_ROUNDS

-- the lines that plans and plans of peers share, by their first word
abbrev pub shared_line : Names → Verb → LineForm SharedLine
shared_line which verbs.Cancel =
    word (name_word CALLED) (λ call. word fault_word (λ code. end (shareds.Cancel call code)))
shared_line which verbs.Ask = word (name_word CALLED) (λ call. end (shareds.Ask call))
shared_line which verbs.Poll = word (node_word which) (λ node. end (shareds.Poll node))
shared_line which verbs.Deliver = word (name_word PACKET) (λ packet. end (shareds.Deliver packet))
shared_line which verbs.Clock = word (nodes_word which) (λ node. word moment_word (λ now. end (shareds.Clock node now)))
shared_line which verbs.Turn = word (node_word which) (λ node. end (shareds.Turn node))
shared_line which verbs.Round = end (shareds.Rounds 1)
shared_line which verbs.Rounds = word rounds_word (λ rounds. end (shareds.Rounds rounds))
shared_line which verbs.Lossy =
    word seed_word (λ seed. word rounds_word (λ rounds. end (shareds.Lossy seed rounds)))
shared_line which _ = λ words. Err whys.Word

-- such a line as one of a plan
abbrev pub plan_of_shared : SharedLine → PlanLine
plan_of_shared (shareds.Cancel call code) = lines.Cancel call code
plan_of_shared (shareds.Ask call) = lines.Ask call
plan_of_shared (shareds.Poll node) = lines.Poll node
plan_of_shared (shareds.Deliver packet) = lines.Deliver packet
plan_of_shared (shareds.Clock node now) = lines.Clock node now
plan_of_shared (shareds.Turn node) = lines.Turn node
plan_of_shared (shareds.Rounds rounds) = lines.Rounds rounds
plan_of_shared (shareds.Lossy seed rounds) = lines.Lossy seed rounds

-- such a line as one of a plan of peers
abbrev pub peer_of_shared : SharedLine → PeerLine
peer_of_shared (shareds.Cancel call code) = peers.Cancel call code
peer_of_shared (shareds.Ask call) = peers.Ask call
peer_of_shared (shareds.Poll node) = peers.Poll node
peer_of_shared (shareds.Deliver packet) = peers.Deliver packet
peer_of_shared (shareds.Clock node now) = peers.Clock node now
peer_of_shared (shareds.Turn node) = peers.Turn node
peer_of_shared (shareds.Rounds rounds) = peers.Rounds rounds
peer_of_shared (shareds.Lossy seed rounds) = peers.Lossy seed rounds

-- ---- plans

-- HOST of a node to be made, where these hosts are taken
abbrev pub new_host : (Host → Bool) → List ℕ → Result Host LineWhy
new_host taken word = and_then (host_word word) (λ host. if taken host then Err whys.Twice else Ok host)

-- server HOST [service=N] [conns=N] [calls=N] [slots=N] [window=N] [key=HEX] [nonce=N]
abbrev pub server_line : LineForm PlanLine
server_line =
    word host_word (λ host words. and_then (options_word SERVER_OPTIONS words)
    (λ given. Ok (lines.Server host (service_in given) (limits_in given) given.key (nonce_in given))))

-- client HOST epoch=N [conns=N] [calls=N] [slots=N] [window=N] [key=HEX]
abbrev pub client_line : (Host → Bool) → LineForm PlanLine
client_line taken =
    word (new_host taken) (λ host. word epoch_word (λ epoch words. and_then (options_word CLIENT_OPTIONS words)
    (λ given. Ok (lines.Client host epoch (limits_in given) given.key))))

-- connect cI [first=N]
abbrev pub connect_line : LineForm PlanLine
connect_line =
    word (name_word CLIENT) (λ client words. and_then (options_word CONNECT_OPTIONS words)
    (λ given. Ok (lines.Connect client (first_in given))))

-- write @K BYTES, write #K BYTES
abbrev pub write_of : CallWord → List ℕ → PlanLine
write_of (calls.Called call) bytes = lines.Write call bytes
write_of (calls.Accepted call) bytes = lines.HandlerWrite call bytes

-- write #K or @K, BYTES
abbrev pub write_line : LineForm PlanLine
write_line = word call_word (λ call. word bytes_word (λ bytes. end (write_of call bytes)))

-- forge NODE HOST BYTES
abbrev pub forge_line : LineForm PlanLine
forge_line =
    word (node_word names.Plan) (λ node. word host_word (λ host. word bytes_word
    (λ bytes. end (lines.Forge node host bytes))))

-- read @K MAX, read #K MAX
abbrev pub read_of : CallWord → ℕ → PlanLine
read_of (calls.Called call) max = lines.Read call max
read_of (calls.Accepted call) max = lines.HandlerRead call max

-- a line of names and numbers, by its first word
abbrev pub numbers_line : Verb → LineForm PlanLine
numbers_line verbs.Call =
    word (name_word CLIENT) (λ client. word cid_word (λ cid. end (lines.Call client cid)))
numbers_line verbs.Shut = word (name_word CALLED) (λ call. end (lines.Shut call))
numbers_line verbs.Read = word call_word (λ call. word max_word (λ max. end (read_of call max)))
numbers_line verbs.Accept = end lines.Accept
numbers_line verbs.Finish =
    word (name_word ACCEPTED) (λ call. word code_word (λ code. end (lines.Finish call code)))
numbers_line verbs.Jumbo =
    word (name_word PACKET) (λ first. word (name_word PACKET) (λ last. end (lines.Jumbo first last)))
numbers_line verb = λ words. and_then (shared_line names.Plan verb words) (λ line. Ok (plan_of_shared line))

-- a line of a plan that holds no value, by its first word
abbrev pub plain_line : (Host → Bool) → Verb → LineForm PlanLine
plain_line taken verbs.Server = server_line
plain_line taken verbs.Client = client_line taken
plain_line taken verbs.Connect = connect_line
plain_line taken verbs.Write = write_line
plain_line taken verbs.Forge = forge_line
plain_line taken verb = numbers_line verb

-- what a line says that its words give
abbrev pub seen_by : {L : Type 0} → (L → Said L) → LineForm L → LineForm (Said L)
seen_by said form words = and_then (form words) (λ line. Ok (said line))

-- a line of a plan, by its first word
abbrev pub plan_by : Types → Procs → (Host → Bool) → Verb → LineForm (Said PlanLine)
plan_by t ps taken verbs.Invoke = λ words. and_then (invoke_line t ps names.Plan words) (λ call. Ok (invoked call))
plan_by t ps taken verb = seen_by plan_said (plain_line taken verb)

-- the line that words say, where an unknown first word is `Word`
abbrev pub by_first : {L : Type 0} → (Verb → LineForm L) → LineForm L
by_first by [] = Err whys.Word
by_first by (first ∷ words) = and_then (ok_or (verb_in VERBS first) whys.Word) (λ verb. by verb words)

-- a line of a plan
abbrev pub plan_line : Types → Procs → (Host → Bool) → LineForm (Said PlanLine)
plan_line t ps taken = by_first (plan_by t ps taken)

-- ---- plans of peers

-- peer HOST epoch=N [service=N] [conns=N] [calls=N] [slots=N] [window=N]
abbrev pub peer_node_line : (Host → Bool) → LineForm PeerLine
peer_node_line taken =
    word (new_host taken) (λ host. word epoch_word (λ epoch words. and_then (options_word PEER_OPTIONS words)
    (λ given. Ok (peers.Peer host epoch (service_in given) (limits_in given)))))

-- a line of a plan of peers that holds no value, by its first word
abbrev pub plain_peer_line : (Host → Bool) → Verb → LineForm PeerLine
plain_peer_line taken verbs.Peer = peer_node_line taken
plain_peer_line taken verbs.Connect =
    word (name_word PEER) (λ peer. word (name_word PEER) (λ to. end (peers.Connect peer to)))
plain_peer_line taken verb = λ words. and_then (shared_line names.Peers verb words) (λ line. Ok (peer_of_shared line))

-- a line of a plan of peers, by its first word
abbrev pub peer_by : Types → Procs → (Host → Bool) → Verb → LineForm (Said PeerLine)
peer_by t ps taken verbs.Invoke = λ words. and_then (invoke_line t ps names.Peers words) (λ call. Ok (invoked call))
peer_by t ps taken verb = seen_by peer_said (plain_peer_line taken verb)

-- a line of a plan of peers
abbrev pub peer_line : Types → Procs → (Host → Bool) → LineForm (Said PeerLine)
peer_line t ps taken = by_first (peer_by t ps taken)
