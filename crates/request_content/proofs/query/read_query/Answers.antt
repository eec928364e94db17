use Rattle.std.proofs.Common.{Some, sym, ◌∙◌, ap}
use Rattle.request_content.proofs.Contents.{address_rule, session_rule_is, query_rule_is}
use Rattle.request_content.proofs.Contents.{query_read, query_refused}
use Rattle.request_content.proofs.query.read_query.Goals as goal

pub returns-then-not-branch-clause-refused : goal.returns-then-not-branch-clause-refused
returns-then-not-branch-clause-refused c =
    address_rule _ _ _ _ (sym c.in_default.ensures) (sym c.in_ok-has_address.ensures ∙ c.if-not-branch.true)
    ∙ ap Some (sym c.rule.ensures)

pub returns-in-Some-session_rule-clause-refused : goal.returns-in-Some-session_rule-clause-refused
returns-in-Some-session_rule-clause-refused c =
    session_rule_is _ _ _ _ _ (sym c.in_default.ensures)
    (sym c.in_ok-has_address.ensures ∙ c.if-not-branch.false)
    (sym c.session_rule.ensures ∙ c.in-Some-session_rule.is)

pub returns-clause-unbroken : goal.returns-clause-unbroken
returns-clause-unbroken c =
    query_read _ _ c.query_of.result
    (query_rule_is _ _ _ _ (sym c.in_default.ensures)
    (sym c.in_ok-has_address.ensures ∙ c.if-not-branch.false)
    (sym c.in_default-session_rule.ensures))
    c.query_of.ensures.unbroken

pub returns-clause-refused : goal.returns-clause-refused
returns-clause-refused c =
    query_refused _ _ c.query_of.result
    (query_rule_is _ _ _ _ (sym c.in_default.ensures)
    (sym c.in_ok-has_address.ensures ∙ c.if-not-branch.false)
    (sym c.in_default-session_rule.ensures))
    c.query_of.ensures.refused
