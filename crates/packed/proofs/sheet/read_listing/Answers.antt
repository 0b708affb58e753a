-- `packed::sheet::read_listing` meets its contract.
use Rattle.packed.proofs.Passing.{err_is}
use Rattle.packed.proofs.Sheets.{lead_refused, lists_read}
use Rattle.packed.proofs.sheet.read_listing.Goals as goal

pub returns : goal.returns
returns c =
    let args = c.args in
    let pre = c.requires in
    let standing = c.standing-k in
    let read-lists = c.read_lists in
    let p = c.in_ok-lead.ensures in
    lists_read args.m pre.inside p standing.ensures.0 read-lists.result _ read-lists.ensures

pub returns-in_err-lead : goal.returns-in_err-lead
returns-in_err-lead c =
    let args = c.args in
    let p = c.in_err-lead.ensures in
    rw (err_is c.from_residual.result c.from_residual.ensures.1) (lead_refused args.m p)
