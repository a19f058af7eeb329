mod ResultLemmas
