use Rattle.names.proofs.kernel_laws.links_last.Goals as goal

-- what is known of the kernel says which groups are kept, and the law what that means for names
pub returns : goal.returns
returns g c = λ x left.
    let now = c.known.ensures.stop.keeps x left in
    record {
      groups = now.between.groups;
      low = now.between.low;
      high = now.between.high;
      leads = λ name number linked.
          c.committed_names_lead.ensures _ x _ now.between.groups name number now.between.keeps linked;
    }
