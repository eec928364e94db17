use Rattle.mdoc_security.proofs.Dates.{no_date}
use Rattle.mdoc_security.proofs.mobile_security_object.date_of.Goals as goal

pub returns-in-Err : goal.returns-in-Err
returns-in-Err c =
    no_date c.args.text.now c.read_tdate.result c.in-Err.field-0 c.in-Err.is c.read_tdate.ensures.form
    c.read_tdate.ensures.no_such
