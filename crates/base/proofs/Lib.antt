pub mod Cases  -- cases on a test or on two numbers, and contradictions
pub mod Tests  -- a choice by a test, from the fact that a branch gives
pub mod Functions  -- laws of `specs/Functions.antt`
pub mod Search  -- laws of `specs/Search.antt`
pub mod Count  -- laws of `specs/Count.antt`
pub mod Lists  -- laws of `specs/Lists.antt`
pub mod Neighbours  -- how the neighbours in a list without repeats change when a page leaves it, takes another's place or comes in front, in the shape of the stores that change the links
pub mod Links  -- the three changes of a linked list, each as the stores that make it
pub mod AllBelow  -- what `all_of` and `all_below` of `specs/Tests.antt`, and a test that is asked only where another holds, say
pub mod Pigeonhole  -- a list without repeats of numbers below n that pass a test is no longer than they are many
