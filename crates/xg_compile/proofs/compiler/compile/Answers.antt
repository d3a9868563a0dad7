use Rattle.xg_compile.specs.Faults.{lex_fault, parse_fault, check_fault}
use Rattle.xg_compile.proofs.CompileLaws.{err_is, has_tokens, has_one_tree, lex_meaning, lex_first, parse_meaning}
use Rattle.xg_compile.proofs.CompileLaws.{parse_first, check_meaning, check_first, ok_meaning, ok_first}
use Rattle.xg_compile.proofs.compiler.compile.Goals as goal

pub returns-in_err-tokens-clause-only_meaning : goal.returns-in_err-tokens-clause-only_meaning
returns-in_err-tokens-clause-only_meaning c =
    let e = c.in_err-tokens.field-0.0 in
    let r = c.from_residual.result in
    lex_meaning c.args.text.now e r (err_is r (lex_fault e) c.from_residual.ensures.1)
    c.in_err-tokens.ensures.only_tokens

pub returns-in_err-tokens-clause-only_fault : goal.returns-in_err-tokens-clause-only_fault
returns-in_err-tokens-clause-only_fault c =
    let e = c.in_err-tokens.field-0.0 in
    let r = c.from_residual.result in
    lex_first c.args.text.now e r (err_is r (lex_fault e) c.from_residual.ensures.1)
    c.in_err-tokens.ensures.only_tokens c.in_err-tokens.ensures.only_fault

pub returns-in_err-tree-clause-only_meaning : goal.returns-in_err-tree-clause-only_meaning
returns-in_err-tree-clause-only_meaning c =
    let text = c.args.text.now in
    let tokens = c.in_ok-tokens.tokens in
    let lexed = c.in_ok-tokens.ensures in
    let e = c.in_err-tree.field-0.0 in
    let r = c.from_residual-in_err-tree.result in
    parse_meaning text tokens (has_tokens text tokens lexed.tokens lexed.only_tokens lexed.only_fault) e r
    (err_is r (parse_fault e) c.from_residual-in_err-tree.ensures.1) c.in_err-tree.ensures.only_tree

pub returns-in_err-tree-clause-only_fault : goal.returns-in_err-tree-clause-only_fault
returns-in_err-tree-clause-only_fault c =
    let text = c.args.text.now in
    let tokens = c.in_ok-tokens.tokens in
    let lexed = c.in_ok-tokens.ensures in
    let e = c.in_err-tree.field-0.0 in
    let r = c.from_residual-in_err-tree.result in
    parse_first text tokens (has_tokens text tokens lexed.tokens lexed.only_tokens lexed.only_fault) e r
    (err_is r (parse_fault e) c.from_residual-in_err-tree.ensures.1) c.in_err-tree.ensures.only_tree
    c.in_err-tree.ensures.only_fault

pub returns-in_err-check-clause-only_meaning : goal.returns-in_err-check-clause-only_meaning
returns-in_err-check-clause-only_meaning c =
    let text = c.args.text.now in
    let tokens = c.in_ok-tokens.tokens in
    let tree = c.in_ok-tree.tree in
    let lexed = c.in_ok-tokens.ensures in
    let parsed = c.in_ok-tree.ensures in
    let e = c.in_err-check.field-0.0 in
    let r = c.from_residual-in_err-check.result in
    check_meaning text tree (has_one_tree text tokens tree
    (has_tokens text tokens lexed.tokens lexed.only_tokens lexed.only_fault) parsed.only_tree parsed.only_fault) e r
    (err_is r (check_fault e) c.from_residual-in_err-check.ensures.1) c.in_err-check.ensures.only_meaning

pub returns-in_err-check-clause-only_fault : goal.returns-in_err-check-clause-only_fault
returns-in_err-check-clause-only_fault c =
    let text = c.args.text.now in
    let tokens = c.in_ok-tokens.tokens in
    let tree = c.in_ok-tree.tree in
    let lexed = c.in_ok-tokens.ensures in
    let parsed = c.in_ok-tree.ensures in
    let e = c.in_err-check.field-0.0 in
    let r = c.from_residual-in_err-check.result in
    check_first text tree (has_one_tree text tokens tree
    (has_tokens text tokens lexed.tokens lexed.only_tokens lexed.only_fault) parsed.only_tree parsed.only_fault) e r
    (err_is r (check_fault e) c.from_residual-in_err-check.ensures.1) c.in_err-check.ensures.only_fault

pub returns-clause-only_meaning : goal.returns-clause-only_meaning
returns-clause-only_meaning c =
    let text = c.args.text.now in
    let tokens = c.in_ok-tokens.tokens in
    let tree = c.in_ok-tree.tree in
    let lexed = c.in_ok-tokens.ensures in
    let parsed = c.in_ok-tree.ensures in
    ok_meaning text tree (has_one_tree text tokens tree
    (has_tokens text tokens lexed.tokens lexed.only_tokens lexed.only_fault) parsed.only_tree parsed.only_fault)
    c.in_ok-check.field-0 c.in_ok-check.ensures.only_meaning

pub returns-clause-only_fault : goal.returns-clause-only_fault
returns-clause-only_fault c =
    let text = c.args.text.now in
    let tokens = c.in_ok-tokens.tokens in
    let tree = c.in_ok-tree.tree in
    let lexed = c.in_ok-tokens.ensures in
    let parsed = c.in_ok-tree.ensures in
    ok_first text tree (has_one_tree text tokens tree
    (has_tokens text tokens lexed.tokens lexed.only_tokens lexed.only_fault) parsed.only_tree parsed.only_fault)
    c.in_ok-check.field-0 c.in_ok-check.ensures.only_fault
