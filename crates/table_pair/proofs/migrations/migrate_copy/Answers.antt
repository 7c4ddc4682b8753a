use Rattle.std.proofs.Common.{◌∙◌, inl, inr, ap, rules, sym}
use Rattle.std.proofs.lemmas.Bool.{false≢true}
use Rattle.mss_base.specs.Blocks.{block_of}
use Rattle.mss_base.specs.Content.{SiteLog}
use Rattle.table_pair.specs.Copies.{CopyView}
use Rattle.table_pair.proofs.MigrateLemmas.{version_read, unwritten, still_new, still_firm, rewriting, rewritten, firm_since}
use Rattle.table_pair.proofs.migrations.migrate_copy.Goals as goal

pub returns-in_err-read_whole-clause-migrates : goal.returns-in_err-read_whole-clause-migrates
returns-in_err-read_whole-clause-migrates g c = λ tells. record {
  moments = unwritten _ _ _ _ (c.read_whole.ensures.devices.log tells);
  done = search rules;
  clear = search rules;
  firm = search rules;
  untouched = λ _. c.read_whole.ensures.devices.log tells;
}

pub returns-then-not-is_old-clause-migrates : goal.returns-then-not-is_old-clause-migrates
returns-then-not-is_old-clause-migrates g c = λ tells.
    let s = g.S.Site.told c.args.site.now in
    let same = c.read_whole.ensures.devices.log tells in
    let new = version_read c.args.at.now s c.read_whole.new.into c.is_old.result (c.in_ok-read_whole.ensures.block tells) c.is_old.ensures ∙ c.if-not-is_old.true in
    record {
      moments = unwritten c.args.row.now c.args.at.now s _ same;
      done = still_new c.args.row.now c.args.at.now s _ c.args.used same (c.requires.held tells) new;
      clear = inl (ap (λ (u : SiteLog). block_of u c.args.at.now) same);
      firm = still_firm c.args.row.now c.args.at.now s _ same;
      untouched = λ _. same;
    }

pub returns-in_err-rewrite_copy-clause-migrates : goal.returns-in_err-rewrite_copy-clause-migrates
returns-in_err-rewrite_copy-clause-migrates g c = λ tells.
    let s = g.S.Site.told c.args.site.now in
    let old = version_read c.args.at.now s c.read_whole.new.into c.is_old.result (c.in_ok-read_whole.ensures.block tells) c.is_old.ensures ∙ c.if-not-is_old.false in
    record {
      moments = rewriting c.args.row.now _ c.encode_row.ensures.body c.encode_row.ensures.again c.args.at.now s _ _ (c.read_whole.ensures.devices.log tells) (c.rewrite_copy.ensures.moments tells);
      done = search rules;
      clear = search rules;
      firm = search rules;
      untouched = λ new. absurd (false≢true (sym new ∙ old));
    }

pub returns-clause-migrates : goal.returns-clause-migrates
returns-clause-migrates g c = λ tells.
    let s = g.S.Site.told c.args.site.now in
    let t = g.S.Site.told c.rewrite_copy.new.site in
    let read = c.read_whole.ensures.devices.log tells in
    let row = c.args.row.now in
    let body_is = c.encode_row.ensures.body in
    let again = c.encode_row.ensures.again in
    let old = version_read c.args.at.now s c.read_whole.new.into c.is_old.result (c.in_ok-read_whole.ensures.block tells) c.is_old.ensures ∙ c.if-not-is_old.false in
    record {
      moments = rewriting row _ body_is again c.args.at.now s _ t read (c.rewrite_copy.ensures.moments tells);
      done = rewritten row _ body_is again c.args.at.now s _ t read (c.in_ok-rewrite_copy.ensures.done tells);
      clear = inr (ap (λ (v : CopyView). v.is_clear) (c.in_ok-rewrite_copy.ensures.done tells));
      firm = firm_since row _ body_is again c.args.at.now s _ t read (c.in_ok-rewrite_copy.ensures.firm tells);
      untouched = λ new. absurd (false≢true (sym new ∙ old));
    }
